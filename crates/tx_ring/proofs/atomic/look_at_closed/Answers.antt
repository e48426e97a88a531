use Rattle.std.proofs.Common.{arith}
use Rattle.tx_ring.proofs.Gathering.{closed-call}
use Rattle.tx_ring.proofs.atomic.look_at_closed.Goals as goal

pub load-requires : goal.load-requires
load-requires g c = let z = c.requires.table.1 in
    (c.requires.table.0, omega arith, closed-call g.P.Framed.segs _ _ _ z.0 _ c.requires.rest)
