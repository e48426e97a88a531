use Rattle.std.proofs.Common.{rules}
use Rattle.handover_slot.proofs.Steps.{takes-fitting}
use Rattle.handover_slot.proofs.place.HandoverSlot.first.Goals as goal

pub compare_exchange-found-requires : goal.compare_exchange-found-requires
compare_exchange-found-requires g c =
    let came = c.load_new_seat-seen.ensures in
    (search rules, search rules, takes-fitting g.T.Fits.fits c.self.inside.table.shared.key _ _ 0 _ came.1 came.2)
