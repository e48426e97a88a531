use Rattle.std.proofs.Common.{arith}
use Rattle.tx_ring.proofs.Reaping.{give-call}
use Rattle.tx_ring.proofs.atomic.give_back.Goals as goal

pub load-requires : goal.load-requires
load-requires g c = let z = c.requires.table.1 in let h = c.requires.ready.0 in
    (c.requires.table.0, omega arith, give-call g.P.Framed.segs _ _ _ _ c.args.last _ z.0 c.requires.ready)
