use Rattle.std.proofs.Common.{◌≡◌}
use Rattle.test_pool.proofs.pool.claim_eight.Given as goal

abbrev pub invariant-loop-k : goal.invariant-loop-k
invariant-loop-k g l = l.seat.credits ≡ l.fn.seat.credits
