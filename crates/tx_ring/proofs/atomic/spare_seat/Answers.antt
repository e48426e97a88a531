use Rattle.std.proofs.Common.{arith}
use Rattle.tx_ring.proofs.Comparing.{spare-call}
use Rattle.tx_ring.proofs.atomic.spare_seat.Goals as goal

pub load_new_seat-spare-requires : goal.load_new_seat-spare-requires
load_new_seat-spare-requires g c = let z = c.requires in (omega arith, spare-call g.P.Framed.segs _ _)
