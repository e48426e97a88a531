use Rattle.std.proofs.Common.{◌≡◌, ◌≤◌, vec_len, vec_capacity}
use Rattle.pin_dump.proofs.TakenShards.{TakenSoFar}
use Rattle.pin_dump.proofs.taking.take_all.Given as goal

abbrev pub invariant-loop-shard : goal.invariant-loop-shard
invariant-loop-shard g l = record {
  taken : TakenSoFar g.P.PoolName.sizes l.shard l.fn.mine l.mine l.fn.seat l.seat l.pairs.items l.points.items;
  count : vec_len l.points ≡ l.shard;
  room : l.shards ≤ vec_capacity l.points;
}
