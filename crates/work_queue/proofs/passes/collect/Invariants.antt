use Rattle.std.proofs.Common.{◌≡◌, All, length}
use Rattle.std.specs.Vec.Iter.{into_iter_items}
use Rattle.work_queue.specs.Slots.{filled_slots}
use Rattle.work_queue.specs.Work.{HasAbsorbed, HasWorkBelow, all_done}
use Rattle.work_queue.proofs.passes.collect.Given as goal

abbrev pub invariant-loop-worker_slot : goal.invariant-loop-worker_slot
invariant-loop-worker_slot g l = record {
  pass : HasAbsorbed l.queue l.yielded l.fn.pass l.pass;
  slots : l.slots ≡ filled_slots l.fn.slots (all_done l.yielded);
  rest : All (HasWorkBelow l.queue (length l.fn.slots)) (into_iter_items l.worker_slot-iterator);
}
