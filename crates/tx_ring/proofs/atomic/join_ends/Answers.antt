use Rattle.std.proofs.Common.{arith, ap}
use Rattle.tx_ring.proofs.Comparing.{join-call}
use Rattle.tx_ring.proofs.atomic.join_ends.Goals as goal

pub join_seat-requires : goal.join_seat-requires
join_seat-requires g c = let z = c.requires.table.2 in let e = c.requires.posed.1 in (
  c.requires.table.0,
  c.requires.table.1,
  ap (λ m. m.1) e,
  omega arith,
  join-call g.P.Framed.segs _
      c.args.ring.now.shared.table_id.slots _ _ _ _ _ _ c.requires.posed.0 (ap (λ m. m.0) e),
)
