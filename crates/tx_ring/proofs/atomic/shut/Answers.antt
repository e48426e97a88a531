use Rattle.std.proofs.Common.{arith}
use Rattle.tx_ring.proofs.Reaping.{close-call}
use Rattle.tx_ring.proofs.atomic.shut.Goals as goal

pub store-requires : goal.store-requires
store-requires g c = let z = c.requires.table.1 in
    (c.requires.table.0, omega arith, close-call g.P.Framed.segs _ _ _ _ z.0 c.requires.posed c.requires.reaped)
