use Rattle.frag_value.proofs.Released.{has_keys}
use Rattle.shard_core.proofs.Carried.{came_value}
use Rattle.shard_core.proofs.carrying.bring_out.Goals as goal

pub fetch-requires-clause-held : goal.fetch-requires-clause-held
fetch-requires-clause-held g c = has_keys c.args.value.now c.args.own.now.holds c.requires.value.held

pub returns-clause-value : goal.returns-clause-value
returns-clause-value g c =
    (came_value g.P.PoolName.sizes c.args.value.now c.args.payer.now c.fetch.new.into c.args.own.now c.requires.value
    c.is_seat.ensures c.is_seat-2.ensures c.fetch.ensures.into).0

pub returns-clause-bytes : goal.returns-clause-bytes
returns-clause-bytes g c =
    (came_value g.P.PoolName.sizes c.args.value.now c.args.payer.now c.fetch.new.into c.args.own.now c.requires.value
    c.is_seat.ensures c.is_seat-2.ensures c.fetch.ensures.into).1
