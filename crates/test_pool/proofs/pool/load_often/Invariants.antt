use Rattle.std.proofs.Common.{◌≡◌}
use Rattle.test_pool.proofs.pool.load_often.Given as goal

abbrev pub invariant-loop : goal.invariant-loop
invariant-loop g l = record {
  seat : l.seat ≡ l.fn.seat;
  hold : l.hold ≡ l.fn.hold;
}
