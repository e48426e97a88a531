use Rattle.std.proofs.Common.{◌≤◌, length, drop}
use Rattle.reply_planner.proofs.Kept.{Below}
use Rattle.reply_planner.proofs.stage.Stage.put_before.Given as goal

abbrev pub invariant-loop-place : goal.invariant-loop-place
invariant-loop-place g l = record {
  within : l.place ≤ length l.self-inside.free.items;
  passed : Below l.fn.hold.buffer (drop l.place l.self-inside.free.items);
}

abbrev pub decreases-loop-place : goal.decreases-loop-place
decreases-loop-place g l = l.place
