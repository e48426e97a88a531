use Rattle.std.proofs.Common.{◌≤◌}
use Rattle.device_model.proofs.framing.count_past.Given as goal

abbrev pub invariant-loop-i : goal.invariant-loop-i
invariant-loop-i g l = l.left ≤ l.count
