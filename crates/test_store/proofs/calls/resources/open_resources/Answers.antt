use Rattle.std.proofs.Common.{◌≡◌, length, ap, ◌∙◌, arith}
use Rattle.pinned_pool.specs.declared.view.View.{View}
use Rattle.test_store.proofs.NewShards.{length-new}
use Rattle.test_store.proofs.calls.resources.open_resources.Goals as goal

pub open_seats-requires : goal.open_seats-requires
open_seats-requires g c =
    let shards = g.N.BookName.sizes.shards in
    let count : c.len.result ≡ shards = c.len.ensures ∙ ap length c.name-book.ensures.shards ∙ length-new 0 shards in
    let all : c.name-pool.result.1.credits ≡ g.P.PoolName.sizes.credits =
    ap (λ (v : View). v.credits) c.name-pool.ensures in
    omega (arith, count, all, c.requires.credits)

pub open-requires-2-clause-seats : goal.open-requires-2-clause-seats
open-requires-2-clause-seats g c =
    let seats = c.in_ok-shard_maps.ensures.seats in
    (seats.0 ∙ c.len.ensures ∙ ap length c.name-book.ensures.shards ∙ length-new 0 g.N.BookName.sizes.shards, seats.1)

pub invariant_of-result : goal.invariant_of-result
invariant_of-result g c =
    let shards = g.N.BookName.sizes.shards in
    let count : c.len.result ≡ shards = c.len.ensures ∙ ap length c.name-book.ensures.shards ∙ length-new 0 shards in
    let all : c.name-pool.result.1.credits ≡ g.P.PoolName.sizes.credits =
    ap (λ (v : View). v.credits) c.name-pool.ensures in
    let kept = c.in-Ok.ensures.opened.keeps.credits in
    record {
      all = omega (arith, count, all, c.in_ok-shard_maps.ensures.credits, kept);
      rich = omega (arith, count, all, c.requires.credits, c.in_ok-shard_maps.ensures.credits, kept);
    }
