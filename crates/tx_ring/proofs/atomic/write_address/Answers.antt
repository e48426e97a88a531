use Rattle.std.proofs.Common.{arith}
use Rattle.tx_ring.proofs.Posting.{place-below, write-first}
use Rattle.tx_ring.proofs.atomic.write_address.Goals as goal

pub store-requires : goal.store-requires
store-requires g c = let z = c.requires.table.1 in let h = place-below g.P.Framed.segs _ _ c.args.seat.now.id
    c.args.seat.now.me z.0 c.args.seat.now.me.0 c.args.place z.2 c.requires.ready in
    (c.requires.table.0, omega arith, write-first g.P.Framed.segs _ _ _ _ z.0 _ _ z.2 c.requires.ready)
