use Rattle.std.proofs.Common.{sym, ◌∙◌, ap, ◌<◌, subst, arith}
use mathlib.Core.Option.{none}
use Rattle.pin_core.specs.Holding.{Key}
use Rattle.pinned_pool.specs.Moves.{meant_count}
use Rattle.pinned_pool.specs.declared.view.View.{View}
use Rattle.pinned_pool.proofs.Names.{near}
use Rattle.pinned_pool.proofs.Within.{next_seat, seat_pin}
use Rattle.pinned_pool.proofs.Keys.{some-at}
use Rattle.pinned_pool.proofs.Steps.{pins_hold}
use Rattle.pinned_pool.proofs.pool.Pool.add_pin.Goals as goal

pub fetch_add-requires : goal.fetch_add-requires
fetch_add-requires g c =
    let named = c.args.self.now.named in
    let has = subst (λ (p : Key × View). 0 < meant_count p.0 p.1.holds)
    (λ i. (sym c.hold.view_is i, sym c.owner.view_is i)) c.requires.0 in
    let rich = ap (λ (v : View). v.credits) c.owner.view_is in
    let b = near _ _ _ _ named c.hold.inside.buffer c.hold.invariant in (
      c.owner.invariant.named ∙ sym named.table_is,
      b.1,
      pins_hold _ _ _ c.owner.inside.seat.me c.hold.inside.buffer none
          b.0 (some-at _ _ has) (omega (arith, c.requires.1)),
    )

pub invariant_of-owner : goal.invariant_of-owner
invariant_of-owner g c = let e = c.fetch_add.ensures in let was = c.owner.invariant in
    let has = subst (λ (p : Key × View). 0 < meant_count p.0 p.1.holds)
    (λ i. (sym c.hold.view_is i, sym c.owner.view_is i)) c.requires.0 in
    let rich = ap (λ (v : View). v.credits) c.owner.view_is in
    next_seat _ _ _ _ c.owner.inside.seat.me _ _ was e.0 e.2
    (seat_pin g.N.PoolName.sizes c.owner.inside.seat.me.0 was.kept c.hold.inside.buffer (some-at _ _ has)
    (omega (arith, c.requires.1)))
