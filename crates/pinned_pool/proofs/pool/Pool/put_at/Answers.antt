use Rattle.std.proofs.Common.{sym, ◌∙◌, ◌<◌, ◌≤◌, length, subst, ℕ, arith}
use mathlib.Core.Option.{none}
use Rattle.view_sums.specs.Total.{total}
use Rattle.pin_core.specs.Buffers.{buffers, buffer_words}
use Rattle.pin_core.specs.Holding.{sole_at}
use Rattle.pinned_pool.specs.Moves.{front_of, put}
use Rattle.pinned_pool.specs.declared.view.View.{View}
use Rattle.pinned_pool.proofs.Names.{data_word, word-on, first-most}
use Rattle.pinned_pool.proofs.Within.{next_seat, seat_put}
use Rattle.pinned_pool.proofs.Steps.{stores_at}
use Rattle.pinned_pool.proofs.WordRuns.{room-most}
use Rattle.pinned_pool.proofs.pool.Pool.put_at.Goals as goal

pub overflow_add-at : goal.overflow_add-at
overflow_add-at g c =
    omega (
      arith,
      room-most g.N.PoolName.sizes c.args.buffer,
      c.requires.index.1,
      first-most g.N.PoolName.sizes
          c.args.buffer c.args.first c.requires.first.0 (omega (arith, c.args.self.now.sized)) c.requires.first.1,
    )

pub store-requires : goal.store-requires
store-requires g c =
    let named = c.args.self.now.named in
    let z = g.N.PoolName.sizes in
    let b = g.W.Place.buffer in
    let i = g.W.Place.index in
    let place = c.requires.place in
    let seen = c.seat.view_is in
    let has = subst (λ (p : ℕ × View). 0 < total (sole_at p.0) p.1.holds) (λ j. (sym place.0 j, sym seen j))
    c.requires.exclusive in
    let within = subst (λ (p : ℕ × ℕ × View). p.1 ≤ length (front_of p.0 p.2.holds))
    (λ j. (sym place.0 j, sym place.1 j, sym seen j)) c.requires.index.0 in
    let fits = subst (λ (p : ℕ × ℕ). p.1 < buffer_words z p.0) (λ j. (sym place.0 j, sym place.1 j)) c.requires.index.1
    in
    let near = subst (λ (n : ℕ). n < buffers z) (sym place.0) c.requires.first.0 in
    let d = data_word _ _ z _ named b i _ near fits
    (word-on z c.args.buffer b c.args.index i c.args.first c.requires.first.1 place.0 place.1) in (
      c.seat.invariant.named ∙ sym named.table_is,
      d.inside,
      stores_at _ _ _ c.seat.inside.seat.me b i _ c.args.word none
          d.place c.seat.invariant.kept.live has within d.fits,
    )

pub invariant_of-seat : goal.invariant_of-seat
invariant_of-seat g c =
    let z = g.N.PoolName.sizes in
    let place = c.requires.place in
    let e = c.store.ensures in
    let was = c.seat.invariant in
    let fits = subst (λ (p : ℕ × ℕ). p.1 < buffer_words z p.0) (λ j. (sym place.0 j, sym place.1 j)) c.requires.index.1
    in
    next_seat _ _ _ _ c.seat.inside.seat.me _ (put g.W.Place.buffer g.W.Place.index c.args.word c.seat.inside.seat.me.0)
    was e.0 e.2 (seat_put z c.seat.inside.seat.me.0 was.kept g.W.Place.buffer g.W.Place.index c.args.word fits)
