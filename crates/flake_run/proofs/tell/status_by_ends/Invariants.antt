use Rattle.std.proofs.Common.{◌≡◌, take}
use Rattle.flake_run.specs.Causes.{highest_by}
use Rattle.flake_run.specs.Outcome.{ways}
use Rattle.flake_run.proofs.tell.status_by_ends.Given as goal

abbrev pub invariant-loop-end : goal.invariant-loop-end
invariant-loop-end l = l.status ≡ highest_by (ways (take l.end-index l.ends))
