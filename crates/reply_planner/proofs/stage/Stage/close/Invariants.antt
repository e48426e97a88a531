use Rattle.std.proofs.Common.{length}
use Rattle.view_sums.specs.Total.{Each}
use Rattle.reply_planner.specs.Owned.{IsStaging}
use Rattle.reply_planner.proofs.Kept.{shown}
use Rattle.reply_planner.proofs.Closing.{ClosedSoFar}
use Rattle.reply_planner.proofs.stage.Stage.close.Given as goal

abbrev pub decreases-loop-hold : goal.decreases-loop-hold
decreases-loop-hold g l = length l.stage-inside.free.items

abbrev pub invariant-loop-hold : goal.invariant-loop-hold
invariant-loop-hold g l = record {
  staging : Each (IsStaging g.N.PoolName.sizes) l.stage-inside.free.items;
  closed : ClosedSoFar l.fn.self (shown l.stage-inside.free.items) l.fn.seat l.seat;
}
