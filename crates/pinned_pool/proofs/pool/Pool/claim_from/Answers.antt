use Rattle.std.proofs.Common.{refl, arith}
use Rattle.pinned_pool.specs.Starts.{tried_last}
use Rattle.pinned_pool.proofs.FromStart.{wins_behind, wins_front, last_tried, claimed_around, none_found, sought_one}
use Rattle.pinned_pool.proofs.FromStart.{sought_none}
use Rattle.pinned_pool.proofs.pool.Pool.claim_from.Goals as goal

pub returns-in-Some-clause-won : goal.returns-in-Some-clause-won
returns-in-Some-clause-won g c =
    let range = c.range-first.ensures.range in
    wins_behind g.N.PoolName.sizes c.args.class c.args.start c.range-first.result.0 c.range-first.result.1
    c.last_of-last.result range.0 range.1 c.last_of-last.ensures.last c.in-Some.hold c.args.seat.now c.scan.new.seat
    c.in-Some.ensures.won

pub returns-in-Some-clause-claims : goal.returns-in-Some-clause-claims
returns-in-Some-clause-claims g c =
    let range = c.range-first.ensures.range in
    let z = g.N.PoolName.sizes in
    let last = last_tried z c.args.class c.args.start c.range-first.result.0 c.range-first.result.1
    c.last_of-last.result range.0 range.1 c.last_of-last.ensures.last in
    claimed_around z c.args.class (tried_last z c.args.class c.args.start) c.in-Some.hold c.args.seat.now
    c.scan.new.seat (omega (arith, c.last_of-last.ensures.few, range.1, last)) (returns-in-Some-clause-won g c)

pub returns-in-Some-clause-sought : goal.returns-in-Some-clause-sought
returns-in-Some-clause-sought g c =
    sought_one g.N.PoolName.sizes c.args.class c.in-Some.hold c.args.seat.now c.scan.new.seat
    (returns-in-Some-clause-claims g c)

pub returns-in-Some-scan-clause-won : goal.returns-in-Some-scan-clause-won
returns-in-Some-scan-clause-won g c =
    let range = c.range-first.ensures.range in
    wins_front g.N.PoolName.sizes c.args.class c.args.start c.range-first.result.0 c.range-first.result.1
    c.last_of-last.result range.0 range.1 c.last_of-last.ensures.last c.in-Some-scan.hold c.args.seat.now
    c.scan.new.seat c.scan-2.new.seat c.in_default.ensures.none c.in-Some-scan.ensures.won

pub returns-in-Some-scan-clause-claims : goal.returns-in-Some-scan-clause-claims
returns-in-Some-scan-clause-claims g c =
    let range = c.range-first.ensures.range in
    let z = g.N.PoolName.sizes in
    let last = last_tried z c.args.class c.args.start c.range-first.result.0 c.range-first.result.1
    c.last_of-last.result range.0 range.1 c.last_of-last.ensures.last in
    claimed_around z c.args.class (tried_last z c.args.class c.args.start) c.in-Some-scan.hold c.args.seat.now
    c.scan-2.new.seat (omega (arith, c.last_of-last.ensures.few, range.1, last)) (returns-in-Some-scan-clause-won g c)

pub returns-in-Some-scan-clause-sought : goal.returns-in-Some-scan-clause-sought
returns-in-Some-scan-clause-sought g c =
    sought_one g.N.PoolName.sizes c.args.class c.in-Some-scan.hold c.args.seat.now c.scan-2.new.seat
    (returns-in-Some-scan-clause-claims g c)

pub returns-in-None-clause-none : goal.returns-in-None-clause-none
returns-in-None-clause-none g c =
    let range = c.range-first.ensures.range in
    none_found g.N.PoolName.sizes c.args.class c.args.start c.range-first.result.0 c.range-first.result.1
    c.last_of-last.result range.0 range.1 c.last_of-last.ensures.last _ c.args.seat.now c.scan.new.seat
    c.scan-2.new.seat c.last_of-last.ensures.few refl refl c.in_default.ensures.none c.in-None.ensures.none

pub returns-in-None-clause-sought : goal.returns-in-None-clause-sought
returns-in-None-clause-sought g c =
    sought_none g.N.PoolName.sizes c.args.class _ c.args.seat.now c.scan-2.new.seat (returns-in-None-clause-none g c)
