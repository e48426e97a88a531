use Rattle.reply_planner.specs.Owned.{key_buffers}
use Rattle.reply_planner.proofs.FilledEach.{FilledTo}
use Rattle.reply_planner.proofs.filling.fill_each.Given as goal

abbrev pub invariant-loop-i : goal.invariant-loop-i
invariant-loop-i g l = FilledTo l.text (key_buffers l.staged) l.i l.fn.seat l.seat
