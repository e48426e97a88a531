use Rattle.pinned_pool.proofs.Within.{held-near}
use Rattle.pinned_pool.proofs.pool.Pool.load_at.Goals as goal

pub first_word-first-requires : goal.first_word-first-requires
first_word-first-requires g c = held-near g.N.PoolName.sizes c.args.seat.now c.is_seat.ensures c.args.buffer
    c.requires.held

pub load_from-requires-clause-first : goal.load_from-requires-clause-first
load_from-requires-clause-first g c = (
  held-near g.N.PoolName.sizes c.args.seat.now c.is_seat.ensures c.args.buffer c.requires.held,
  c.first_word-first.ensures,
)
