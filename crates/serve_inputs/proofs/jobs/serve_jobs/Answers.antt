use Rattle.std.proofs.Common.{ap}
use Rattle.serve_inputs.specs.Jobs.{IsNewJob}
use Rattle.run_resources.proofs.Lists.{all_as}
use Rattle.serve_inputs.proofs.jobs.serve_jobs.Goals as goal

pub returns-in-Err : goal.returns-in-Err
returns-in-Err g c = rw (← c.in-Err.ensures.back) c.serve_here.ensures

pub serve_here-requires-clause-fresh : goal.serve_here-requires-clause-fresh
serve_here-requires-clause-fresh g c = λ _ _.
    all_as c.in-Err.jobs.items c.args.jobs.items (λ job. IsNewJob g.P.PoolName.sizes g.N.BookName.sizes.shards
    job.link.session job.link.pump job.link.device.end job.link.device.failed job.link.mtu job.link.dump.plan
    job.link.dump.taken
    job.dump_wire) (ap (λ jobs. jobs.items) c.in-Err.ensures.back) c.requires.fresh
