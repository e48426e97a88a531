use Rattle.std.proofs.Common.{◌≡◌, ℕ, zero, suc, ◌+◌, length, map, refl, ap, ◌∙◌, arith}
use Rattle.std.specs.List.{range_with_len}
use Rattle.pinned_pool.specs.declared.view.View.{View}
use Rattle.order_book.specs.Pages.{new_shard}
use Rattle.session_pass.specs.Views.{SessionView}
use Rattle.test_replies.proofs.resources.open_resources.Goals as goal

length-new : (first shards : ℕ) → length (map new_shard (range_with_len first shards)) ≡ shards
length-new first zero = refl
length-new first (suc shards) = ap suc (length-new (first + 1) shards)

pub open_seats-requires : goal.open_seats-requires
open_seats-requires g c =
    let shards = g.N.BookName.sizes.shards in
    let count : c.len.result ≡ shards = c.len.ensures ∙ ap length c.name-book.ensures.shards ∙ length-new 0 shards in
    let all : c.name-pool.result.1.credits ≡ g.P.PoolName.sizes.credits =
    ap (λ (v : View). v.credits) c.name-pool.ensures in
    omega (arith, count, all, c.requires.credits)

pub open-requires-2-clause-seats : goal.open-requires-2-clause-seats
open-requires-2-clause-seats g c =
    let seats = c.in_ok-shard_maps.ensures.seats in
    (seats.0 ∙ c.len.ensures ∙ ap length c.name-book.ensures.shards ∙ length-new 0 g.N.BookName.sizes.shards, seats.1)

pub open-session-requires-clause-credits : goal.open-session-requires-clause-credits
open-session-requires-clause-credits g c =
    let shards = g.N.BookName.sizes.shards in
    let count : c.len.result ≡ shards = c.len.ensures ∙ ap length c.name-book.ensures.shards ∙ length-new 0 shards in
    let all : c.name-pool.result.1.credits ≡ g.P.PoolName.sizes.credits =
    ap (λ (v : View). v.credits) c.name-pool.ensures in
    omega (
      arith,
      count,
      all,
      c.requires.credits,
      c.in_ok-shard_maps.ensures.credits,
      c.in-Ok.ensures.opened.keeps.credits,
    )

pub invariant_of-result : goal.invariant_of-result
invariant_of-result g c =
    let shards = g.N.BookName.sizes.shards in
    let count : c.len.result ≡ shards = c.len.ensures ∙ ap length c.name-book.ensures.shards ∙ length-new 0 shards in
    let all : c.name-pool.result.1.credits ≡ g.P.PoolName.sizes.credits =
    ap (λ (v : View). v.credits) c.name-pool.ensures in
    let kept = c.in-Ok.ensures.opened.keeps.credits in
    let opened = ap (λ (s : SessionView). s.opened.credits) c.open-session.ensures in
    record { all = omega (arith, count, all, c.in_ok-shard_maps.ensures.credits, kept, opened) }
