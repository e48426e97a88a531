use Rattle.std.proofs.Common.{subst}
use Rattle.reply_planner.specs.Parcels.{IsSent}
use Rattle.reply_planner.proofs.Parts.{sent_is}
use Rattle.reply_planner.proofs.parcel.Parcel.is_parcel.Goals as goal

pub returns : goal.returns
returns g c =
    let p = c.self.inside in
    subst (IsSent g.N.PoolName.sizes) c.self.view_is
    (sent_is g.N.PoolName.sizes p.lists.value.segments.items p.call p.lists.value.pins.items
    p.lists.value.staged.items p.seat c.is_seat.ensures c.self.invariant)
