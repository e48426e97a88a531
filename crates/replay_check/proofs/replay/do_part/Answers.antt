use Rattle.std.proofs.Common.{length, refl, subst}
use Rattle.std.proofs.lemmas.Option.{slice_get_read, slice_get_within}
use Rattle.flake_model.specs.Store.{after}
use Rattle.byte_store.specs.Store.{HoldsStore}
use Rattle.shard_part.specs.Parts.{operation_of}
use Rattle.replay_check.proofs.Replayed.{same_operation}
use Rattle.replay_check.proofs.replay.do_part.Goals as goal

pub returns-clause-after : goal.returns-clause-after
returns-clause-after c = λ meaning operation held has.
    let commands = c.args.session.now.commands.items in
    let within = slice_get_within commands c.args.entry.call has.command has.command_is in
    subst (λ o. HoldsStore c.run.new.self (after meaning o))
    (same_operation commands c.args.entry operation (operation_of c.part-part.result) c.index-command.result.now has
    (slice_get_read commands (length commands) c.args.entry.call c.index-command.result.now refl within
    c.index-command.ensures) c.part-part.ensures.operation)
    (c.in_ok-answer.ensures.after meaning held)
