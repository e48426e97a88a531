use Rattle.std.proofs.Common.{rules, refl, Some, ◌∙◌}
use Rattle.handover_slot.proofs.Steps.{takes-fitting, holds-one}
use Rattle.handover_slot.proofs.place.HandoverSlot.take.Goals as goal

pub compare_exchange-found-requires : goal.compare_exchange-found-requires
compare_exchange-found-requires g c =
    let came = c.load_new_seat-seen.ensures in
    (search rules, search rules, takes-fitting g.T.Fits.fits c.self.inside.table.shared.key _ _ 2 _ came.1 came.2)

pub exchange-requires : goal.exchange-requires
exchange-requires g c =
    let found = c.compare_exchange-found.ensures in
    let t = found.2.full c.if-found-ne-HOME.false refl in
    (found.0 ∙ c.load_new_seat-seen.ensures.0, holds-one c.compare_exchange-found.new.seat.me (Some t.0) t.1)
