use Rattle.std.proofs.Common.{◌≤◌, arith}
use Rattle.shard_store.proofs.Gathering.{first_part}
use Rattle.shard_store.proofs.parts.first_lock.Goals as goal

pub returns : goal.returns
returns g c =
    let room = c.args.room in
    let inside = c.history.inside in
    let histories : c.args.shards ≤ room.journal.spare = omega (arith, room.enough.0, c.requires.open.2) in
    let seats : c.args.shards ≤ room.books.spare = omega (arith, room.enough.1, c.requires.open.2) in
    first_part g.P.PoolName.sizes c.args.shards room.books c.push-2.new.self room.journal c.push.new.self
    c.into_seat.result inside.shard_map inside.seat inside.journal.items c.from_vec.result
    (record {
      shard = c.history.invariant;
      kept = c.is_shard_map.ensures.kept;
      distinct = c.is_shard_map.ensures.distinct;
    })
    c.into_seat.ensures
    c.requires.open.1 room.empty.0 room.empty.1 histories seats c.from_vec.ensures c.in-Ok.ensures.ok
    c.in-Ok.ensures.spare c.in-Ok-push.ensures.ok c.in-Ok-push.ensures.spare
