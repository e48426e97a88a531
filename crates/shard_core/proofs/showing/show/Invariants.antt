use Rattle.std.proofs.Common.{◌≡◌, ◌≤◌, ◌+◌, ◌++◌, length, take}
use Rattle.shard_core.specs.Kept.{segs_of}
use Rattle.shard_core.proofs.showing.show.Given as goal

abbrev pub invariant-loop-i : goal.invariant-loop-i
invariant-loop-i g l = record {
  items : l.stored.items ≡ l.fn.stored.items ++ segs_of g.P.PoolName.sizes (take l.i l.value);
  room : 16 ≤ l.stored.spare + l.i;
  spare : l.fn.stored.spare + length l.fn.stored.items ≤ l.stored.spare + length l.stored.items;
}
