use Rattle.std.proofs.Common.{eqb, sym, ◌∙◌, ap, ◌<◌, subst}
use mathlib.Core.Option.{none}
use Rattle.pin_core.specs.Holding.{Key}
use Rattle.pinned_pool.specs.Moves.{meant_count, unpin}
use Rattle.pinned_pool.specs.declared.view.View.{View}
use Rattle.pinned_pool.proofs.Names.{near}
use Rattle.pinned_pool.proofs.Within.{next_seat, seat_unpin}
use Rattle.pinned_pool.proofs.Steps.{unpins_at}
use Rattle.pinned_pool.proofs.pool.Pool.unpin_as.Goals as goal

pub fetch_sub-requires : goal.fetch_sub-requires
fetch_sub-requires g c =
    let named = c.args.self.now.named in
    let meant = c.requires.meant in
    let has = subst (λ (p : Key × View). 0 < meant_count p.0 p.1.holds) (λ i. (sym meant i, sym c.seat.view_is i))
    c.requires.held in (
      c.seat.invariant.named ∙ sym named.table_is,
      (near _ _ _ _ named c.hold.inside.buffer c.hold.invariant).1,
      unpins_at _ _ _ _ g.K.Meant.key c.hold.inside.buffer none
          (ap (λ (k : Key). k.buffer) (meant ∙ sym c.hold.view_is)) c.seat.invariant.kept.live has,
    )

pub invariant_of-seat : goal.invariant_of-seat
invariant_of-seat g c = let e = c.fetch_sub.ensures in let was = c.seat.invariant in
    next_seat _ _ _ _ c.seat.inside.seat.me _
    (unpin (eqb c.fetch_sub.result 1) (record { buffer = c.hold.inside.buffer; pinned = g.K.Meant.key.pinned })
    c.seat.inside.seat.me.0) was e.0 e.2.0
    (seat_unpin g.N.PoolName.sizes c.seat.inside.seat.me.0 was.kept (eqb c.fetch_sub.result 1) _)
