use Rattle.std.proofs.Common.{rules, Some, sym, subst}
use Rattle.std.specs.Prelude.{⊤}
use Rattle.atomic_table.specs.Table.{Allows}
use Rattle.handover_slot.specs.Lying.{IsKept}
use Rattle.handover_slot.proofs.Steps.{gives-value, holds-then}
use Rattle.handover_slot.proofs.place.Loan.give.Goals as goal

pub store-requires : goal.store-requires
store-requires g c =
    let fits = g.T.Fits.fits c.self.inside.table.now.shared.key in
    let seat = c.exchange.new.seat in
    let only = holds-then _ seat.me c.self.invariant.held (Some c.args.value) c.self.invariant.only c.exchange.ensures.3
    in (
      search rules,
      search rules,
      subst (λ n. Allows (λ s. IsKept fits s.words s.homes) n seat.id seat.me 0 (λ _. 2) (λ _ _. ⊤))
          (sym c.self.invariant.slots)
          (gives-value fits seat.id seat.me c.args.value only (rw c.self.view_is c.requires)),
    )
