use Rattle.std.proofs.Common.{◌≤◌}
use Rattle.test_pool.proofs.rings.drive.Given as goal

abbrev pub invariant-loop : goal.invariant-loop
invariant-loop l = (l.back ≤ l.frames) × (l.sent ≤ l.frames)
