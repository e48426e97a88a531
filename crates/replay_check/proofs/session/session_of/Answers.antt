use Rattle.std.proofs.Common.{arith, ap, length}
use Rattle.replay_check.proofs.InputCommands.{few_commands}
use Rattle.replay_check.proofs.session.session_of.Goals as goal

pub places_of-requires-clause-few : goal.places_of-requires-clause-few
places_of-requires-clause-few c =
    omega (arith, few_commands c.as_slice.result.now c.in_ok-commands.commands.items c.in_ok-commands.ensures)
