use Rattle.tx_ring.proofs.Steps.{splits}
use Rattle.tx_ring.proofs.atomic.split_ends.Goals as goal

pub split_seat-requires : goal.split_seat-requires
split_seat-requires g c = (
  c.requires.table.0,
  c.requires.table.1,
  splits g.P.Framed.segs _ _ c.args.seat.now.me c.requires.both.0
      c.requires.both.1,
)
