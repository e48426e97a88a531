use Rattle.work_queue.proofs.Placing.{all-always}
use Rattle.work_queue.proofs.workers.in_workers.Goals as goal

pub jobs_in_workers-requires-clause-calls : goal.jobs_in_workers-requires-clause-calls
jobs_in_workers-requires-clause-calls g c = λ κs within.
    let may : g.row.T.Denot → Type 0 = λ job. goal.F-pre g c.args.f.now job in
    all-always may (λ job. c.requires.calls.at (job, tt)) c.args.jobs.items
