use Rattle.std.proofs.Common.{◌≡◌, ◌≤◌, Some, map, vec_len, vec_capacity}
use Rattle.work_queue.proofs.slots.emptied.Given as goal

abbrev pub invariant-loop-slot : goal.invariant-loop-slot
invariant-loop-slot g l = record {
  out : map (λ x. Some x) l.out.items ≡ l.yielded;
  room : vec_len l.fn.slots ≤ vec_capacity l.out;
}
