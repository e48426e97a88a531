use Rattle.std.proofs.Common.{arith}
use Rattle.tx_ring.proofs.Comparing.{compare-call}
use Rattle.tx_ring.proofs.atomic.compare_ends.Goals as goal

pub load-requires : goal.load-requires
load-requires g c = let z = c.requires.table.1 in
    (c.requires.table.0, omega arith, compare-call g.P.Framed.segs _ _ _ _ z.0 c.requires.both)
