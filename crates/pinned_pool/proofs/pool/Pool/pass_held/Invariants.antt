use Rattle.std.proofs.Common.{◌-◌, ◌≤◌}
use Rattle.pinned_pool.specs.Claims.{Passed}
use Rattle.pinned_pool.proofs.pool.Pool.pass_held.Given as goal

abbrev pub invariant-loop-passed : goal.invariant-loop-passed
invariant-loop-passed g l = record {
  passed : Passed l.first l.passed l.initial.seat l.seat;
  few : l.passed ≤ l.count;
}

abbrev pub decreases-loop-passed : goal.decreases-loop-passed
decreases-loop-passed g l = l.count - l.passed
