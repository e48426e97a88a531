use Rattle.std.proofs.Common.{sym, ◌∙◌, ◌<◌, length, subst, ℕ, arith}
use mathlib.Core.Option.{none}
use Rattle.view_sums.specs.Total.{total}
use Rattle.pin_core.specs.Holding.{at}
use Rattle.pinned_pool.specs.Moves.{front_of}
use Rattle.pinned_pool.specs.declared.view.View.{View}
use Rattle.pinned_pool.proofs.Names.{data_word, word-on, first-most}
use Rattle.pinned_pool.proofs.Within.{front-short, held-near}
use Rattle.pinned_pool.proofs.WordRuns.{room-most}
use Rattle.pinned_pool.proofs.Steps.{loads_at}
use Rattle.pinned_pool.proofs.pool.Pool.load_from.Goals as goal

pub overflow_add-word : goal.overflow_add-word
overflow_add-word g c =
    omega (
      arith,
      front-short g.N.PoolName.sizes c.args.seat.now c.is_seat.ensures c.args.buffer c.requires.held,
      room-most g.N.PoolName.sizes c.args.buffer,
      c.requires.index,
      first-most g.N.PoolName.sizes c.args.buffer
          c.args.first c.requires.first.0 (omega (arith, c.args.self.now.sized)) c.requires.first.1,
    )

pub load-requires : goal.load-requires
load-requires g c =
    let named = c.args.self.now.named in
    let z = g.N.PoolName.sizes in
    let b = g.W.Place.buffer in
    let i = g.W.Place.index in
    let v = c.seat.inside.seat.me.0 in
    let place = c.requires.place in
    let seen = c.seat.view_is in
    let has = subst (λ (p : ℕ × View). 0 < total (at p.0) p.1.holds) (λ j. (sym place.0 j, sym seen j)) c.requires.held
    in
    let near = held-near z v c.seat.invariant.kept b has in
    let short = subst (λ (p : ℕ × ℕ × View). p.1 < length (front_of p.0 p.2.holds))
    (λ j. (sym place.0 j, sym place.1 j, sym seen j)) c.requires.index in
    let fits = front-short z v c.seat.invariant.kept b has in
    let d = data_word _ _ z _ named b i _ near (omega (arith, fits, short))
    (word-on z c.args.buffer b c.args.index i c.args.first c.requires.first.1 place.0 place.1) in (
      c.seat.invariant.named ∙ sym named.table_is,
      d.inside,
      loads_at _ _ _ c.seat.inside.seat.me b i _ none d.place has
          short,
    )
