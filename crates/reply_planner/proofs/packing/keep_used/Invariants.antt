use Rattle.std.proofs.Common.{◌≡◌, length}
use Rattle.reply_planner.proofs.UsedFirst.{UsedSoFar}
use Rattle.reply_planner.proofs.packing.keep_used.Given as goal

abbrev pub invariant-loop-lists : goal.invariant-loop-lists
invariant-loop-lists g l =
    UsedSoFar l.fn.lists.staged.items l.used l.fn.stage l.lists.staged.items l.stage
    × (l.lists.text ≡ l.fn.lists.text) × (l.lists.segments ≡ l.fn.lists.segments) × (l.lists.pins ≡ l.fn.lists.pins)

abbrev pub decreases-loop-lists : goal.decreases-loop-lists
decreases-loop-lists g l = length l.lists.staged.items
