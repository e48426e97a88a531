use Rattle.std.proofs.Common.{◌≡◌, []}
use Rattle.crossbeam_queue.specs.Passes.{view, IsPassOf}
use Rattle.work_queue.specs.Dealt.{hand}
use Rattle.std.proofs.Common.{length}
use Rattle.work_queue.proofs.passes.push_all.Given as goal

abbrev pub invariant-loop-job : goal.invariant-loop-job
invariant-loop-job g l = record {
  pass : IsPassOf l.queue l.pass × (view l.pass ≡ hand 1024 l.yielded []);
  number : l.number ≡ length l.yielded;
}
