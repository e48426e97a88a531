use Rattle.std.proofs.Common.{◌≡◌, ◌-◌, length, ap, ◌∙◌, arith}
use Rattle.pinned_pool.specs.declared.view.View.{View}
use Rattle.test_store.proofs.NewShards.{length-new}
use Rattle.test_store.proofs.stores.world.run_named.Goals as goal

pub open_seats-requires : goal.open_seats-requires
open_seats-requires g c =
    let shards = g.N.BookName.sizes.shards in
    let count : c.len.result ≡ shards = c.len.ensures ∙ ap length c.name-book.ensures.shards ∙ length-new 0 shards in
    let all : c.name-pool.result.1.credits ≡ g.P.PoolName.sizes.credits =
    ap (λ (v : View). v.credits) c.name-pool.ensures in
    omega (arith, count, all, c.requires.credits)

pub split-second_seat-requires-clause-credits : goal.split-second_seat-requires-clause-credits
split-second_seat-requires-clause-credits g c =
    let shards = g.N.BookName.sizes.shards in
    let count : c.len.result ≡ shards = c.len.ensures ∙ ap length c.name-book.ensures.shards ∙ length-new 0 shards in
    let all : c.name-pool.result.1.credits ≡ g.P.PoolName.sizes.credits =
    ap (λ (v : View). v.credits) c.name-pool.ensures in
    (omega arith, omega (arith, count, all, c.requires.credits, c.in_ok-shard_maps.ensures.credits))

pub open-requires-clause-seats : goal.open-requires-clause-seats
open-requires-clause-seats g c =
    let seats = c.in_ok-shard_maps.ensures.seats in
    (seats.0 ∙ c.len.ensures ∙ ap length c.name-book.ensures.shards ∙ length-new 0 g.N.BookName.sizes.shards, seats.1)

pub invariant_of-one : goal.invariant_of-one
invariant_of-one g c =
    let shards = g.N.BookName.sizes.shards in
    let count : c.len.result ≡ shards = c.len.ensures ∙ ap length c.name-book.ensures.shards ∙ length-new 0 shards in
    let all : c.name-pool.result.1.credits ≡ g.P.PoolName.sizes.credits =
    ap (λ (v : View). v.credits) c.name-pool.ensures in
    let left : c.split-second_seat.new.seat.credits ≡ c.open_seats.new.main.credits - 2 =
    ap (λ (v : View). v.credits) c.split-second_seat.ensures.old in
    record { rich = omega (arith, count, all, c.requires.credits, c.in_ok-shard_maps.ensures.credits, left) }

pub close-journal-requires : goal.close-journal-requires
close-journal-requires g c =
    let shards = g.N.BookName.sizes.shards in
    let count : c.len.result ≡ shards = c.len.ensures ∙ ap length c.name-book.ensures.shards ∙ length-new 0 shards in
    let all : c.name-pool.result.1.credits ≡ g.P.PoolName.sizes.credits =
    ap (λ (v : View). v.credits) c.name-pool.ensures in
    let left : c.split-second_seat.new.seat.credits ≡ c.open_seats.new.main.credits - 2 =
    ap (λ (v : View). v.credits) c.split-second_seat.ensures.old in
    let went : c.split-second_seat.result.credits ≡ 2 = ap (λ (v : View). v.credits) c.split-second_seat.ensures.new in
    let first : c.work_both-one.result.0.0.seat.credits ≡ c.split-second_seat.new.seat.credits =
    c.work_both-one.ensures.first in
    let second : c.work_both-one.result.1.0.seat.credits ≡ c.split-second_seat.result.credits =
    c.work_both-one.ensures.second in
    omega (arith, count, all, c.requires.credits, c.in_ok-shard_maps.ensures.credits, left, went, first, second)
