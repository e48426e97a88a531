use Rattle.std.proofs.Common.{◌≡◌, ◌≤◌, ◌++◌, map, length, vec_capacity}
use Rattle.crossbeam_queue.specs.Passes.{view, IsPassOf}
use Rattle.work_queue.specs.Dealt.{Given}
use Rattle.work_queue.proofs.worker_slot.work.Given as goal

abbrev pub invariant-loop : goal.invariant-loop
invariant-loop g l = record {
  pass : IsPassOf l.queue l.worker_slot.pass;
  parts : (view l.worker_slot.pass).parts ≡ (view l.fn.worker_slot.pass).parts;
  all : (view l.worker_slot.pass).all ≡ (view l.fn.worker_slot.pass).all;
  numbers : (view l.worker_slot.pass).taken ≡ (view l.fn.worker_slot.pass).taken
      ++ map (λ d. d.number) l.worker_slot.done.items;
  given : Given (λ job r. goal.F-post g l.f job r) (view l.fn.worker_slot.pass).all l.worker_slot.done.items;
  room : length (view l.fn.worker_slot.pass).all ≤ vec_capacity l.worker_slot.done;
}
