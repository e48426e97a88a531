use Rattle.std.proofs.Common.{◌≡◌, ◌<◌, ◌∷◌, [], ◌∙◌, ℕ, List, Some, refl, ap, sym, subst, length, slice_get, arith}
use Rattle.std.proofs.Common.{length-append}
use Rattle.std.proofs.lemmas.List.{length-map}
use Rattle.std.proofs.lemmas.Option.{slice_get_read, slice_get_within}
use Rattle.std.specs.List.{flat_map}
use Rattle.flake_base.specs.Roomy.{Roomy}
use Rattle.flake_base.specs.declared.journal.Entry.{Entry}
use Rattle.flake_model.specs.Store.{Answer}
use Rattle.flake_model.specs.Command.{Command, parts}
use Rattle.flake_model.specs.Reply.{reply_text}
use Rattle.flake_model.specs.Journal.{replies_from}
use Rattle.replay_check.specs.Inputs.{contents}
use Rattle.replay_check.specs.Noted.{slots_meant, answers_by}
use Rattle.replay_check.specs.Places.{told}
use Rattle.replay_check.specs.declared.session.Session.{Session}
use Rattle.replay_check.proofs.Cursors.{told_at}
use Rattle.replay_check.proofs.Texts.{fits_parts}
use Rattle.replay_check.proofs.Grown.{one_text_more}
use Rattle.replay_check.proofs.replies.texts_of.Goals as goal

-- the text that a session's replies have
abbrev IsText : List (List Command) → List (Entry × Answer) → ℕ → List ℕ → Type 0
IsText sessions found k wanted = (commands : List Command) × (slice_get sessions k ≡ Some commands)
    × (wanted ≡ flat_map reply_text (replies_from found k 0 commands))

pub session_text-requires : goal.session_text-requires
session_text-requires c =
    let sessions = c.args.sessions.now in
    let slots = c.args.slots.now in
    let number = c.loop-number.number in
    let session = c.index-sessions-number.result in
    let own = c.index-slots-number.result in
    let is = slice_get_read sessions (length sessions) number session refl c.loop-number-test.true
    c.index-sessions-number.is in
    let said = c.as_slice-commands.ensures.value ∙ ap (λ (s : Session). s.commands.items)
    (sym c.index-sessions-number.is) in
    let has = slice_get_read slots (length slots) number own refl
    (omega (
      arith,
      c.loop-number-test.true,
      c.requires.1.count,
      length-map sessions
          (λ (s : Session). s.commands.items),
    )) c.index-slots-number.is in
    ap length c.as_slice.ensures.value ∙ fits_parts c.requires.0 number session.commands.items own.items
    (c.requires.1.each number session.commands.items own (told_at sessions number session is) has)
    ∙ ap (λ calls. length (flat_map parts calls)) (sym said)

pub loop-number-preserved : goal.loop-number-preserved
loop-number-preserved c =
    let sessions = c.args.sessions.now in
    let slots = c.args.slots.now in
    let number = c.loop-number.number in
    let texts = c.loop-number.texts.items in
    let text = c.in_ok-session_text.field-0 in
    let session = c.index-sessions-number.result in
    let own = c.index-slots-number.result in
    let is = slice_get_read sessions (length sessions) number session refl c.loop-number-test.true
    c.index-sessions-number.is in
    let there = told_at sessions number session is in
    let said = c.as_slice-commands.ensures.value ∙ ap (λ (s : Session). s.commands.items)
    (sym c.index-sessions-number.is) in
    let has = slice_get_read slots (length slots) number own refl
    (omega (
      arith,
      c.loop-number-test.true,
      c.requires.1.count,
      length-map sessions
          (λ (s : Session). s.commands.items),
    )) c.index-slots-number.is in
    let count : length texts ≡ number = c.loop-number.invariant.count in
    record {
      count = omega (arith, ap length c.in_ok-push.ensures.ok, length-append texts (text ∷ []), count);
      each = λ found noted k commands below found_there.
          let answered = ap slots_meant c.as_slice.ensures.value
          ∙ noted.each number session.commands.items own there has ∙ ap (λ calls. answers_by found number calls)
          (sym said) in
          let here : text.items ≡ flat_map reply_text (replies_from found number 0 session.commands.items) =
          c.in_ok-session_text.ensures found number answered
          ∙ ap (λ calls. flat_map reply_text (replies_from found number 0 calls)) said in
          subst (λ t. slice_get (contents t) k ≡ Some (flat_map reply_text (replies_from found k 0 commands)))
          (sym c.in_ok-push.ensures.ok)
          (one_text_more (IsText (told sessions) found) texts text
          (λ n less wanted is_text. c.loop-number.invariant.each found noted n is_text.0 (omega (arith, less, count))
          is_text.1 ∙ ap Some (sym is_text.2))
          (λ wanted is_text.
          let same : session.commands.items ≡ is_text.0 = cc (there, ap (slice_get (told sessions)) count, is_text.1) in
          here ∙ (λ i. flat_map reply_text (replies_from found (sym count i) 0 (same i))) ∙ sym is_text.2)
          k (omega (arith, below, count)) (flat_map reply_text (replies_from found k 0 commands))
          (commands, found_there, refl));
    }

pub returns : goal.returns
returns c = λ found noted.
    let sessions = c.args.sessions.now in
    let texts = c.loop-number.texts.items in
    let many : c.loop-number.number ≡ length sessions =
    omega (arith, c.loop-number-test.false, c.loop-number.auto.number-end) in
    record {
      count = omega (
        arith,
        c.loop-number.invariant.count,
        many,
        length-map texts (λ (t : Roomy ℕ). t.items),
        length-map
            sessions (λ (s : Session). s.commands.items),
      );
      each = λ session commands is.
          c.loop-number.invariant.each found noted session commands
          (omega (
            arith,
            slice_get_within (told sessions) session commands is,
            length-map sessions
                (λ (s : Session). s.commands.items),
            many,
          )) is;
    }
