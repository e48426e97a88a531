use Rattle.std.proofs.Common.{length}
use Rattle.reply_planner.proofs.Unpinned.{UnpinnedSoFar}
use Rattle.reply_planner.proofs.returning.unpin_all.Given as goal

abbrev pub decreases-loop-hold : goal.decreases-loop-hold
decreases-loop-hold g l = length l.holds.items

abbrev pub invariant-loop-hold : goal.invariant-loop-hold
invariant-loop-hold g l = UnpinnedSoFar l.fn.holds.items l.holds.items l.lasts l.fn.seat l.seat
