use Rattle.std.proofs.Common.{length, ap, subst, arith}
use Rattle.pinned_pool.specs.Claimed.{ClaimsMore}
use Rattle.frag_value.proofs.ByClass.{full_claims, all_claims}
use Rattle.frag_value.proofs.claims.claim_for.Goals as goal

pub returns-in_err-claim_each-clause-front : goal.returns-in_err-claim_each-clause-front
returns-in_err-claim_each-clause-front g c =
    (full_claims g.N.PoolName.sizes c.args.len c.args.holds.now.items c.claim_each.new.holds.items c.args.seat.now
    c.claim_each.new.seat c.requires.none.0 c.claim_each.ensures.claims).1

pub returns-else-partial-gt0-clause-front : goal.returns-else-partial-gt0-clause-front
returns-else-partial-gt0-clause-front g c =
    (full_claims g.N.PoolName.sizes c.args.len c.args.holds.now.items c.claim_each.new.holds.items c.args.seat.now
    c.claim_each.new.seat c.requires.none.0 c.claim_each.ensures.claims).1

pub returns-in_err-claim_each-2-clause-front : goal.returns-in_err-claim_each-2-clause-front
returns-in_err-claim_each-2-clause-front g c =
    let z = g.N.PoolName.sizes in
    let first = c.claim_each in
    let last = c.claim_each-then-partial-gt0 in
    let full = full_claims z c.args.len c.args.holds.now.items first.new.holds.items c.args.seat.now first.new.seat
    c.requires.none.0 first.ensures.claims in
    (all_claims z c.args.len first.new.holds.items last.new.holds.items c.args.seat.now first.new.seat last.new.seat
    full (omega (arith, c.in_ok-claim_each.ensures.all, ap length c.requires.none.0))
    (omega (arith, c.if-partial-gt0.true))
    (subst (λ class. ClaimsMore z class 1 first.new.holds.items last.new.holds.items first.new.seat last.new.seat)
    c.class_for.ensures last.ensures.claims)).1

pub returns-in_ok-claim_each-2-clause-front : goal.returns-in_ok-claim_each-2-clause-front
returns-in_ok-claim_each-2-clause-front g c =
    let z = g.N.PoolName.sizes in
    let first = c.claim_each in
    let last = c.claim_each-then-partial-gt0 in
    let full = full_claims z c.args.len c.args.holds.now.items first.new.holds.items c.args.seat.now first.new.seat
    c.requires.none.0 first.ensures.claims in
    (all_claims z c.args.len first.new.holds.items last.new.holds.items c.args.seat.now first.new.seat last.new.seat
    full (omega (arith, c.in_ok-claim_each.ensures.all, ap length c.requires.none.0))
    (omega (arith, c.if-partial-gt0.true))
    (subst (λ class. ClaimsMore z class 1 first.new.holds.items last.new.holds.items first.new.seat last.new.seat)
    c.class_for.ensures last.ensures.claims)).1

pub returns-in_ok-claim_each-2-clause-claims : goal.returns-in_ok-claim_each-2-clause-claims
returns-in_ok-claim_each-2-clause-claims g c =
    let z = g.N.PoolName.sizes in
    let first = c.claim_each in
    let last = c.claim_each-then-partial-gt0 in
    let full = full_claims z c.args.len c.args.holds.now.items first.new.holds.items c.args.seat.now first.new.seat
    c.requires.none.0 first.ensures.claims in
    (all_claims z c.args.len first.new.holds.items last.new.holds.items c.args.seat.now first.new.seat last.new.seat
    full (omega (arith, c.in_ok-claim_each.ensures.all, ap length c.requires.none.0))
    (omega (arith, c.if-partial-gt0.true))
    (subst (λ class. ClaimsMore z class 1 first.new.holds.items last.new.holds.items first.new.seat last.new.seat)
    c.class_for.ensures last.ensures.claims)).0
