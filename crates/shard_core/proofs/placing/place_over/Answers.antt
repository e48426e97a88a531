use Rattle.std.proofs.Common.{Some, sym}
use Rattle.shard_core.proofs.Brought.{placed}
use Rattle.shard_core.proofs.Changed.{put-set}
use Rattle.shard_core.proofs.placing.place_over.Goals as goal

pub returns-clause-placed : goal.returns-clause-placed
returns-clause-placed g c =
    let es = c.args.kept.now.values.entries in
    let v = c.in_ok-value.value in
    let now = c.exchange.new.values.entries in
    let put = put-set es now c.args.key.now c.args.index c.exchange.result v c.requires.found c.exchange.ensures.old
    c.exchange.ensures.entries c.exchange.ensures.changed in
    placed g.P.PoolName.sizes c.args.key.now c.args.bytes.now es now v (Some c.exchange.result) c.args.kept.now.own
    c.bring.new.own c.args.stored.now.items c.show.new.stored.items
    c.requires.kept c.in_ok-value.ensures.brought put (sym c.exchange.ensures.old) c.show.ensures.items
