use Rattle.std.proofs.Common.{Some, IfSome, subst}
use Rattle.session_serve.specs.Dumps.{CanKeepAll}
use Rattle.serve_inputs.specs.Jobs.{IsNewJob}
use Rattle.serve_inputs.proofs.NewJobs.{asked_job}
use Rattle.serve_inputs.proofs.Places.{first_all, first_asked, none_asked}
use Rattle.serve_inputs.proofs.orders.ask_first.Goals as goal

pub returns-in_default-clause-asked : goal.returns-in_default-clause-asked
returns-in_default-clause-asked g c =
    none_asked (λ job. (job.link.dump.plan, job.dump_wire)) c.args.order c.args.jobs.now.items c.in_default.is
    c.requires.unasked

pub returns-clause-fresh : goal.returns-clause-fresh
returns-clause-fresh g c =
    let z = g.P.PoolName.sizes in
    let shards = g.N.BookName.sizes.shards in
    let can = subst (λ order. IfSome order (λ o. CanKeepAll z shards o.plan.seat)) c.in-Some.is c.requires.order in
    first_all c.args.jobs.now.items c.index_mut-job.result.now _
    (λ job. IsNewJob z shards job.link.session job.link.pump job.link.device.end job.link.device.failed
    job.link.mtu job.link.dump.plan job.link.dump.taken job.dump_wire) c.requires.one c.index_mut-job.ensures.value
    c.requires.fresh
    (λ is. asked_job z shards _ _ _ _ _ _ _ _ _ _ c.in-Some.order.plan c.in-Some.order.wire is can c.new.ensures.plan
    c.new.ensures.taken)

pub returns-clause-asked : goal.returns-clause-asked
returns-clause-asked g c =
    first_asked (λ job. (job.link.dump.plan, job.dump_wire)) c.args.order c.in-Some.order c.args.jobs.now.items
    _ c.in-Some.is c.requires.one c.requires.unasked (λ i. (c.new.ensures.plan i, Some c.in-Some.order.wire))
