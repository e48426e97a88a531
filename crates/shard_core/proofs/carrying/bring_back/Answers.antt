use Rattle.frag_value.proofs.Released.{has_keys}
use Rattle.shard_core.proofs.Carried.{came_value}
use Rattle.shard_core.proofs.carrying.bring_back.Goals as goal

pub lend-requires-clause-held : goal.lend-requires-clause-held
lend-requires-clause-held g c = has_keys c.args.value.now c.args.payer.now.holds c.requires.value.held

pub returns-clause-filled : goal.returns-clause-filled
returns-clause-filled g c =
    (came_value g.P.PoolName.sizes c.args.value.now c.args.own.now c.lend.new.into c.args.payer.now c.requires.value
    c.is_seat.ensures c.is_seat-2.ensures c.lend.ensures.into).0.filled

pub returns-clause-bytes : goal.returns-clause-bytes
returns-clause-bytes g c =
    (came_value g.P.PoolName.sizes c.args.value.now c.args.own.now c.lend.new.into c.args.payer.now c.requires.value
    c.is_seat.ensures c.is_seat-2.ensures c.lend.ensures.into).1
