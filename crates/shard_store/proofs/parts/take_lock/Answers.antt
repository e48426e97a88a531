use Rattle.std.proofs.Common.{◌∙◌, is_some, ap}
use Rattle.pinned_pool.specs.Moves.{joined_views}
use Rattle.shard_store.proofs.Gathering.{taken, is_below}
use Rattle.shard_store.proofs.parts.take_lock.Goals as goal

pub returns-in-Ok-push : goal.returns-in-Ok-push
returns-in-Ok-push g c =
    let inside = c.history.inside in
    let parts = c.args.parts.now in
    taken g.P.PoolName.sizes g.row.I c.args.shards parts.books c.push-in-Some.new.self parts.journal c.push.new.self
    parts.seat c.join.new.into inside.shard_map inside.seat inside.journal.items c.from_vec.result
    c.requires.parts (record {
      shard = c.history.invariant;
      kept = c.is_shard_map.ensures.kept;
      distinct = c.is_shard_map.ensures.distinct;
    })
    (is_below g.row.I c.args.shards _ c.requires.open (ap is_some c.in-Some.is))
    (c.join.ensures.joined ∙ ap (joined_views parts.seat) c.into_seat.ensures) c.is_seat.ensures c.from_vec.ensures
    c.in-Ok.ensures.ok c.in-Ok.ensures.spare c.in-Ok-push.ensures.ok c.in-Ok-push.ensures.spare
