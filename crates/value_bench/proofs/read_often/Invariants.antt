use Rattle.std.proofs.Common.{◌≡◌}
use Rattle.value_bench.proofs.read_often.Given as goal

abbrev pub invariant-loop : goal.invariant-loop
invariant-loop g l = l.seat ≡ l.fn.seat
