use Rattle.std.proofs.Common.{◌≡◌, ◌-◌, ◌≤◌, vec_len, vec_capacity}
use Rattle.pinned_pool.specs.Claimed.{ClaimsMore}
use Rattle.pinned_pool.specs.Classes.{just}
use Rattle.pinned_pool.specs.Sought.{Sought}
use Rattle.pinned_pool.proofs.pool.Pool.claim_each.Given as goal

abbrev pub decreases-loop-class : goal.decreases-loop-class
decreases-loop-class g l = l.all - vec_len l.holds

abbrev pub invariant-loop-class : goal.invariant-loop-class
invariant-loop-class g l = record {
  claims : ClaimsMore g.N.PoolName.sizes l.class (vec_len l.holds - vec_len l.fn.holds) l.fn.holds.items l.holds.items
      l.fn.seat l.seat;
  sought : Sought g.N.PoolName.sizes (just l.class (vec_len l.holds - vec_len l.fn.holds)) 0 l.fn.seat l.seat;
  more : vec_len l.fn.holds ≤ vec_len l.holds;
  most : vec_len l.holds ≤ l.all;
  capacity : vec_capacity l.holds ≡ vec_capacity l.fn.holds;
}
