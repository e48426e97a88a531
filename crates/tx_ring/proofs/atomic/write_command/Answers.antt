use Rattle.std.proofs.Common.{arith}
use Rattle.tx_ring.proofs.Posting.{place-below, write-second}
use Rattle.tx_ring.proofs.atomic.write_command.Goals as goal

pub store-requires : goal.store-requires
store-requires g c = let z = c.requires.table.1 in let o = c.requires.ready in let h =
    place-below g.P.Framed.segs _ _ c.args.seat.now.id c.args.seat.now.me z.0 o.0 c.args.place z.2 o.2 in
    (c.requires.table.0, omega arith, write-second g.P.Framed.segs _ _ _ _ z.0 _ _ o.1 o.0 z.2 o.2 o.3)
