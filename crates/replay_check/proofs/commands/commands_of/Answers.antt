use Rattle.std.proofs.Common.{◌≡◌, ◌++◌, ◌∷◌, [], ◌∙◌, List, Option, None, Some, ap, sym, subst, map, append-nil}
use Rattle.std.specs.Global.{Vec}
use Rattle.flake_base.specs.declared.reply.ErrorKind.{ErrorKind}
use Rattle.flake_model.specs.Command.{Command, command_of, fault}
use Rattle.replay_check.specs.Inputs.{AreCommands}
use Rattle.replay_check.specs.Refused.{error_kind_of}
use Rattle.replay_check.proofs.InputCommands.{refused, whole, with_error}
use Rattle.replay_check.proofs.commands.commands_of.Goals as goal
use Rattle.replay_check.proofs.commands.commands_of.Goals.{in-Ok, in-Err+in_ok-refused-in-Err, in-Some+in_ok-push}
use Rattle.replay_check.proofs.commands.commands_of.Goals.{in_default}

pub returns : goal.returns
returns c =
    let input = c.args.input.now in
    let reader = c.feed.new.self in
    let meant : AreCommands input (map command_of reader.requests ++ refused c.match-feed.refused) =
    elim c.match-feed.branch [
      | in-Ok w ↦
          subst (λ (kind : Option ErrorKind). AreCommands input (map command_of reader.requests ++ refused kind))
          (sym w.refused-is)
          (subst (AreCommands input) (sym (append-nil (map command_of reader.requests)))
          (whole input reader w.in-Ok.ensures.ok
          (w.in-Ok.ensures.fed (λ is. cc is) [] [] c.new-reader.ensures.fed)))
      | in-Err+in_ok-refused-in-Err w ↦
          (let other = w.in_ok-refused-in-Err.ensures.other in
          subst (λ (kind : Option ErrorKind). AreCommands input (map command_of reader.requests ++ refused kind))
          (sym (w.refused-is ∙ w.in_ok-refused-in-Err.ensures.kind))
          (with_error input reader w.in-Err.error (w.in-Err.ensures.closes other)
          (w.in-Err.ensures.fed (λ is. other (cc is)) [] [] c.new-reader.ensures.fed)))
    ] in
    let requests = map command_of reader.requests in
    let made : c.match-refused.commands.items ≡ requests ++ refused c.match-feed.refused = elim c.match-refused.branch [
      | in-Some+in_ok-push w ↦
          (ap (λ (v : Vec Command). v.items) w.commands-is ∙ w.in_ok-push.ensures.items
          ∙ ap (λ g. g ++ w.protocol.result ∷ []) c.in_ok-commands.ensures
          ∙ ap (λ p. requests ++ p ∷ []) w.protocol.ensures
          ∙ ap (λ k. requests ++ refused k) (sym w.in-Some.is))
      | in_default w ↦
          (ap (λ (v : Vec Command). v.items) w.commands-is ∙ c.in_ok-commands.ensures ∙ sym (append-nil requests)
          ∙ ap (λ k. requests ++ refused k) (sym w.in_default.is))
    ] in
    subst (AreCommands input) (sym made) meant
