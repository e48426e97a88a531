use Rattle.frag_value.proofs.Released.{has_keys}
use Rattle.shard_core.proofs.Brought.{brought}
use Rattle.shard_core.proofs.placing.bring.Goals as goal

pub lend-requires-clause-held : goal.lend-requires-clause-held
lend-requires-clause-held g c = has_keys c.in_ok-value.value c.write_from.new.seat.holds
    c.in_ok-value.ensures.written.has.held

pub returns-clause-brought : goal.returns-clause-brought
returns-clause-brought g c =
    brought g.P.PoolName.sizes c.args.bytes.now c.in_ok-value.value c.args.own.now c.lend.new.into c.args.payer.now
    c.write_from.new.seat
    c.is_value.ensures c.in_ok-value.ensures.written c.is_seat.ensures c.is_seat-2.ensures c.lend.ensures.into
