use Rattle.std.proofs.Common.{arith}
use Rattle.tx_ring.proofs.Reaping.{last-below, status-call}
use Rattle.tx_ring.proofs.atomic.look_at_status.Goals as goal

pub load-requires : goal.load-requires
load-requires g c = let z = c.requires.table.1 in let o = c.requires.oldest in let h =
    last-below g.P.Framed.segs c.args.ring.now.shared.key _ _ z.2 o.3 in (
      c.requires.table.0,
      omega arith,
      status-call g.P.Framed.segs _ _ _ _ z.0 z.2 c.requires.posed o.0 o.1 o.2 o.4 _
          o.3,
    )
