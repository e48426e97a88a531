use Rattle.std.proofs.Common.{◌≡◌, ◌≤◌, length, take}
use Rattle.std.specs.VecDeque.{deque_len, deque_capacity}
use Rattle.shard_core.specs.Rooms.{FitRooms}
use Rattle.shard_core.proofs.pinning.rooms_for.Given as goal

abbrev pub invariant-loop-i : goal.invariant-loop-i
invariant-loop-i g l = record {
  fit : FitRooms l.rooms.items (take l.i l.values.entries);
  count : deque_len l.rooms ≡ l.i;
  room : length l.values.entries ≤ deque_capacity l.rooms;
}
