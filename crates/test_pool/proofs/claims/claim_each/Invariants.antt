use Rattle.std.proofs.Common.{◌≡◌}
use Rattle.test_pool.proofs.claims.claim_each.Given as goal

abbrev pub invariant-loop-want : goal.invariant-loop-want
invariant-loop-want g l = l.seat.credits ≡ g.N.PoolName.sizes.credits
