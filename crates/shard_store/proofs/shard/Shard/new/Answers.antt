use Rattle.shard_store.proofs.Histories.{begins}
use Rattle.shard_store.proofs.shard.Shard.new.Goals as goal

pub invariant_of-result : goal.invariant_of-result
invariant_of-result g c = begins g.P.PoolName.sizes g.row.I _ c.args.own c.args.seat _ c.new.ensures
    c.requires.seat c.new-2.ensures.items
