use Rattle.std.proofs.Common.{subst}
use Rattle.view_sums.specs.Total.{Each}
use Rattle.view_sums.proofs.Eachs.{each-front}
use Rattle.order_book.specs.declared.place.Place.{Place}
use Rattle.order_book.proofs.seats.SeatList.pop.Goals as goal

pub invariant_of-self-2 : goal.invariant_of-self-2
invariant_of-self-2 g c =
    let P : Place → Type 0 = g.K.SeatKind.holds g.N.BookName.table g.N.BookName.sizes in
    each-front P _ _ (subst (Each P) c.in_ok-place.ensures.some c.self.invariant)
