use Rattle.std.proofs.Common.{sym, ◌∙◌, ap, arith}
use Rattle.pinned_pool.specs.Moves.{split_new}
use Rattle.pinned_pool.specs.declared.view.View.{View}
use Rattle.pinned_pool.proofs.Names.{some_word}
use Rattle.pinned_pool.proofs.Within.{next_seat, seat_kept, seat_given}
use Rattle.pinned_pool.proofs.Steps.{splits_seat}
use Rattle.pinned_pool.proofs.pool.Pool.cut.Goals as goal

pub split_seat-new-requires : goal.split_seat-new-requires
split_seat-new-requires g c = let named = c.args.self.now.named in let had =
    ap (λ (v : View). v.credits) c.seat.view_is in (
      c.seat.invariant.named ∙ sym named.table_is,
      some_word _ _ _ _ named,
      splits_seat _ 0 _ c.seat.inside.seat.me
          g.G.Gift.keys g.G.Gift.credits (omega (arith, c.requires.gift.1)) (omega (arith, c.requires.gift.1)),
    )

pub invariant_of-seat : goal.invariant_of-seat
invariant_of-seat g c = let e = c.split_seat-new.ensures in let was = c.seat.invariant in let had =
    ap (λ (v : View). v.credits) c.seat.view_is in
    next_seat _ _ _ _ c.seat.inside.seat.me _ _ was e.0 e.2
    (seat_kept g.N.PoolName.sizes c.seat.inside.seat.me.0 was.kept g.G.Gift.keys g.G.Gift.credits
    (omega (arith, c.requires.gift.1)))

pub invariant_of-result : goal.invariant_of-result
invariant_of-result g c = let e = c.split_seat-new.ensures in let was = c.seat.invariant in
    next_seat _ _ _ _ c.seat.inside.seat.me _ _ was e.3
    (e.4 ∙ ap (λ l. (split_new g.G.Gift.keys g.G.Gift.credits c.seat.inside.seat.me.0, l)) (sym was.no_slot))
    (seat_given g.N.PoolName.sizes c.seat.inside.seat.me.0 was.kept g.G.Gift.keys g.G.Gift.credits
    (omega (arith, c.requires.gift.1)))
