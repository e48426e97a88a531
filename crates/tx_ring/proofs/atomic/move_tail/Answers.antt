use Rattle.std.proofs.Common.{arith}
use Rattle.tx_ring.proofs.Posting.{put-call}
use Rattle.tx_ring.proofs.atomic.move_tail.Goals as goal

pub store-requires : goal.store-requires
store-requires g c = let z = c.requires.table.1 in
    (c.requires.table.0, omega arith, put-call g.P.Framed.segs _ _ _ _ _ z.0 c.requires.ready)
