use Rattle.std.proofs.Common.{◌≡◌, ◌++◌, length, map}
use Rattle.flake_model.specs.Command.{command_of}
use Rattle.replay_check.proofs.commands.requested.Given as goal

-- the commands so far, and those of the requests that are left
abbrev pub invariant-loop-request : goal.invariant-loop-request
invariant-loop-request l = map command_of l.fn.reader.requests ≡ l.commands.items ++ map command_of l.reader.requests

abbrev pub decreases-loop-request : goal.decreases-loop-request
decreases-loop-request l = length l.reader.requests
