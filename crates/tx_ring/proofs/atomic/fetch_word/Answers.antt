use Rattle.std.proofs.Common.{arith}
use Rattle.tx_ring.proofs.Fetching.{fetch-below, fetch-call}
use Rattle.tx_ring.proofs.atomic.fetch_word.Goals as goal

pub load-requires : goal.load-requires
load-requires g c = let z = c.requires.table.1 in let h = fetch-below g.P.Framed.segs c.args.ring.now.shared.key
    c.args.seat.now.me c.args.word z.2 c.requires.ready in
    (c.requires.table.0, omega arith, fetch-call g.P.Framed.segs _ _ _ _ _ z.0 c.requires.ready)
