use Rattle.std.proofs.Common.{length, ap, sym, ◌∙◌}
use Rattle.work_queue.proofs.Deals.{pushes, fits}
use Rattle.work_queue.proofs.passes.push_all.Goals as goal

pub push_as-requires-clause-rule : goal.push_as-requires-clause-rule
push_as-requires-clause-rule g c =
    let is = c.loop-job.invariant.pass.1 in
    (pushes _ _ _ _ (ap (λ v. v.parts) is) (c.loop-job.invariant.number ∙ sym (ap (λ v. length v.all) is)), fits _ _)
