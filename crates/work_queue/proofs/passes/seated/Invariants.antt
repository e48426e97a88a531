use Rattle.std.proofs.Common.{◌≡◌, ◌+◌, ◌≤◌, All, length, vec_len, vec_capacity}
use Rattle.std.specs.Vec.Iter.{into_iter_items}
use Rattle.crossbeam_queue.specs.Passes.{view}
use Rattle.work_queue.specs.Room.{IsRoomy}
use Rattle.work_queue.specs.Work.{HasLent, IsNew}
use Rattle.work_queue.proofs.passes.seated.Given as goal

abbrev pub invariant-loop-done : goal.invariant-loop-done
invariant-loop-done g l = record {
  lent : HasLent l.queue (length l.yielded) l.fn.pass l.pass;
  len : vec_len l.worker_slots ≡ length l.yielded;
  count : length l.yielded + length (into_iter_items l.done-iterator) ≡ vec_len l.fn.dones;
  room : vec_len l.fn.dones ≤ vec_capacity l.worker_slots;
  worker_slots : All (IsNew l.queue (view l.fn.pass).all) l.worker_slots.items;
  rest : All (IsRoomy (length (view l.fn.pass).all)) (into_iter_items l.done-iterator);
}
