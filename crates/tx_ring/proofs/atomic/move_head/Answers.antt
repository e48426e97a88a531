use Rattle.std.proofs.Common.{arith}
use Rattle.tx_ring.proofs.Gathering.{behind-call}
use Rattle.tx_ring.proofs.atomic.move_head.Goals as goal

pub store-requires : goal.store-requires
store-requires g c = let z = c.requires.table.1 in
    (c.requires.table.0, omega arith, behind-call g.P.Framed.segs _ _ _ z.0 _ _ c.requires.ready)
