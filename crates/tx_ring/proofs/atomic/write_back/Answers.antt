use Rattle.std.proofs.Common.{arith}
use Rattle.tx_ring.proofs.Reaping.{last-below}
use Rattle.tx_ring.proofs.Gathering.{held-call}
use Rattle.tx_ring.proofs.atomic.write_back.Goals as goal

pub store-requires : goal.store-requires
store-requires g c = let z = c.requires.table.1 in let h = last-below g.P.Framed.segs c.args.ring.now.shared.key _ _ z.2
    c.requires.ready.5 in
    (c.requires.table.0, omega arith, held-call g.P.Framed.segs _ _ _ z.0 _ _ _ z.2 c.requires.ready)
