use Rattle.std.proofs.Common.{◌≡◌, ◌+◌, ◌∷◌, ◌++◌, ◌∙◌, ap, sym, length, map, drop, arith, length-append}
use Rattle.std.proofs.lemmas.List.{drop_more}
use Rattle.std.specs.List.{flat_map}
use Rattle.flake_model.specs.Command.{Command, parts}
use Rattle.flake_model.specs.Reply.{reply_text}
use Rattle.flake_model.specs.Journal.{answer_at, session_steps, replies_from}
use Rattle.resp_text.specs.Meaning.{meaning}
use Rattle.replay_check.specs.Noted.{slots_meant}
use Rattle.replay_check.proofs.Texts.{one_call, one_text}
use Rattle.replay_check.proofs.replies.session_text.Goals as goal

pub loop-command-preserved : goal.loop-command-preserved
loop-command-preserved c =
    let commands = c.args.commands.now in
    let k = c.loop-command.command-index in
    let command = c.command-item.result in
    let behind = drop (k + 1) commands in
    let front : drop k commands ≡ command ∷ behind = drop_more commands k command c.loop-command-test.true
    ∙ ap (λ first. first ∷ behind) (sym c.command-item.is) in
    record {
      few = omega (
        arith,
        c.split_at.ensures.back_len,
        c.loop-command.invariant.few,
        ap (λ calls. length (flat_map parts calls)) front,
        length-append (parts command) (flat_map parts behind),
        c.count-count.ensures.parts,
      );
      said = λ found session answered.
          let was = c.loop-command.invariant.said found session answered in
          let both = one_call found session k c.count-count.result command behind c.loop-command.rest.now
          c.count-count.ensures.parts
          (was.0 ∙ ap (λ calls. map (λ step. answer_at step.0 found) (session_steps session k calls)) front) in (
            ap slots_meant c.split_at.ensures.back ∙ both.1,
            one_text found session k command behind c.split_at.result.0.now c.loop-command.text.items
                c.put_text.new.text.items _ (meaning c.in_ok-reply.reply)
                (ap slots_meant c.split_at.ensures.front ∙ both.0)
                c.in_ok-reply.ensures c.in_ok-put_text.ensures.text
                (was.1 ∙ ap (λ calls. c.loop-command.text.items ++ flat_map reply_text
                (replies_from found session k calls)) front),
          );
    }
