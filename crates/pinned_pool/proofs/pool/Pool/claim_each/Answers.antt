use Rattle.std.proofs.Common.{◌≡◌, ◌∙◌, ◌+◌, ◌-◌, refl, subst, vec_len, arith}
use Rattle.std.proofs.lemmas.Result.{err_from_is_err_and}
use Rattle.pinned_pool.specs.Claimed.{ClaimsMore}
use Rattle.pinned_pool.specs.Classes.{just}
use Rattle.pinned_pool.specs.Sought.{Sought}
use Rattle.pinned_pool.proofs.SoughtLaws.{sought_nothing, sought_within, sought_more, sought_fewer}
use Rattle.pinned_pool.proofs.ManyClaims.{more_none, more_won, more_passed, none_free}
use Rattle.pinned_pool.proofs.pool.Pool.claim_each.Goals as goal

pub loop-class-init : goal.loop-class-init
loop-class-init g c =
    let z = g.N.PoolName.sizes in
    let v = c.args.seat.now in
    let none : 0 ≡ vec_len c.args.holds.now - vec_len c.args.holds.now = omega arith in
    record {
      claims = subst (λ n. ClaimsMore z c.args.class n c.args.holds.now.items c.args.holds.now.items v v) none
          (more_none z c.args.class c.args.holds.now.items v);
      sought = sought_within z (λ class. 0) (just c.args.class (vec_len c.args.holds.now - vec_len c.args.holds.now)) 0
          v v (sought_nothing z v v refl refl) (λ class. omega arith);
      more = omega arith;
      most = omega arith;
      capacity = refl;
    }

pub loop-class-preserved : goal.loop-class-preserved
loop-class-preserved g c =
    let i = c.loop-class.invariant in
    let z = g.N.PoolName.sizes in
    let class = c.args.class in
    let n = vec_len c.loop-class.holds - vec_len c.args.holds.now in
    let items = c.push_reserved.ensures.items in
    let more : n + 1 ≡ vec_len c.push_reserved.new.self - vec_len c.args.holds.now =
    omega (arith, c.push_reserved.ensures.len, i.more) in
    record {
      claims = subst (λ m. ClaimsMore z class m c.args.holds.now.items c.push_reserved.new.self.items c.args.seat.now
          c.claim_from.new.seat) more
          (more_won z class n c.args.holds.now.items c.loop-class.holds.items c.push_reserved.new.self.items
          c.in_ok-hold.hold c.args.seat.now c.loop-class.seat c.claim_from.new.seat i.claims items
          c.in_ok-hold.ensures.claims);
      sought = subst (λ m. Sought z (just class m) 0 c.args.seat.now c.claim_from.new.seat) more
          (sought_more z class n 0 c.args.seat.now c.loop-class.seat c.claim_from.new.seat i.sought
          c.in_ok-hold.ensures.sought);
      more = omega (arith, c.push_reserved.ensures.len, i.more);
      most = omega (arith, c.push_reserved.ensures.len, i.most);
      capacity = c.push_reserved.ensures.capacity ∙ i.capacity;
    }

pub returns-in_err-hold-clause-claims : goal.returns-in_err-hold-clause-claims
returns-in_err-hold-clause-claims g c =
    let i = c.loop-class.invariant in
    more_passed g.N.PoolName.sizes c.args.class (vec_len c.loop-class.holds - vec_len c.args.holds.now) c.args.count
    c.args.holds.now.items c.loop-class.holds.items c.args.seat.now c.loop-class.seat c.claim_from.new.seat i.claims
    (omega (arith, i.most, c.len.ensures)) c.in_err-hold.ensures.none.claims

pub returns-in_err-hold-clause-none : goal.returns-in_err-hold-clause-none
returns-in_err-hold-clause-none g c =
    let p = err_from_is_err_and c.from_residual.result c.from_residual.ensures.1 in
    let i = c.loop-class.invariant in
    let none = c.in_err-hold.ensures.none in
    rw (p.1, p.2) (
      none.of_class,
      omega (arith, c.loop-class-test.true, c.len.ensures, c.len-in-loop-class.ensures),
      none_free g.N.PoolName.sizes _ c.in_err-hold.field-0.0 c.args.seat.now c.loop-class.seat c.claim_from.new.seat
          i.claims.claims none.free,
    )

pub returns-in_err-hold-clause-sought : goal.returns-in_err-hold-clause-sought
returns-in_err-hold-clause-sought g c =
    let p = err_from_is_err_and c.from_residual.result c.from_residual.ensures.1 in
    let i = c.loop-class.invariant in
    let z = g.N.PoolName.sizes in
    let n = vec_len c.loop-class.holds - vec_len c.args.holds.now in
    rw p.1
    (sought_fewer z c.args.class (n + 1) c.args.count 1 c.args.seat.now c.claim_from.new.seat
    (omega (arith, c.loop-class-test.true, c.len.ensures, c.len-in-loop-class.ensures, i.more))
    (sought_more z c.args.class n 1 c.args.seat.now c.loop-class.seat c.claim_from.new.seat i.sought
    c.in_err-hold.ensures.sought))
