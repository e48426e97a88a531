use Rattle.std.proofs.Common.{◌≡◌, ◌<◌, All, length}
use Rattle.std.specs.Vec.Iter.{into_iter_items}
use Rattle.work_queue.specs.Slots.{filled_slots}
use Rattle.work_queue.proofs.slots.place.Given as goal

abbrev pub invariant-loop-number : goal.invariant-loop-number
invariant-loop-number g l = record {
  slots : l.slots ≡ filled_slots l.fn.slots l.yielded;
  rest : All (λ d. d.number < length l.fn.slots) (into_iter_items l.number-iterator);
}
