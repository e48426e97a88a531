use Rattle.std.proofs.Common.{◌≡◌, ◌++◌, ap, ◌∙◌}
use Rattle.crossbeam_queue.specs.Passes.{view}
use Rattle.work_queue.specs.Work.{taken_of}
use Rattle.work_queue.specs.declared.hand.Hand.{Hand}
use Rattle.work_queue.proofs.Working.{filled-by}
use Rattle.work_queue.proofs.crew.by_workers.Goals as goal

pub returns-clause-slots : goal.returns-clause-slots
returns-clause-slots g c =
    let worker_slots = c.worked-worker_slots.result.items in
    let taken : (view c.collect.new.pass).taken ≡ taken_of worker_slots =
    ap (λ (v : Hand g.row.T.Denot). v.taken) c.collect.ensures.pass.is
    ∙ ap (λ t. t ++ taken_of worker_slots) (c.worked-worker_slots.ensures.pass.taken ∙ c.requires.pass.2) in
    filled-by (λ job r. goal.F-post g c.args.f.now job r) c.args.queue.now (view c.args.pass.now).all worker_slots _ _ _
    _
    c.worked-worker_slots.ensures.worker_slots taken c.requires.slots c.collect.ensures.slots
