use Rattle.std.proofs.Common.{◌≡◌, All, vec_len}
use Rattle.work_queue.specs.Room.{IsRoomy}
use Rattle.work_queue.proofs.room.rooms.Given as goal

abbrev pub invariant-loop-i : goal.invariant-loop-i
invariant-loop-i g l = record {
  len : vec_len l.rooms ≡ l.i;
  each : All (IsRoomy l.n) l.rooms.items;
}
