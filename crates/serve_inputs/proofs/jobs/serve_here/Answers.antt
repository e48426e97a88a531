use Rattle.std.proofs.Common.{length, ap, arith}
use Rattle.serve_inputs.specs.Jobs.{IsNewJob}
use Rattle.run_resources.proofs.Lists.{all_first, all_rest, all_as, all_given, given_on, zip_more, zip_as}
use Rattle.serve_inputs.proofs.jobs.serve_here.Goals as goal

pub serve_job-requires-clause-fresh : goal.serve_job-requires-clause-fresh
serve_job-requires-clause-fresh g c = λ _ _.
    all_first _ _ c.in-Some.job (λ job. IsNewJob g.P.PoolName.sizes g.N.BookName.sizes.shards job.link.session
    job.link.pump job.link.device.end job.link.device.failed job.link.mtu job.link.dump.plan job.link.dump.taken
    job.dump_wire)
    c.in-Some.ensures.steps.0 c.loop-job.invariant.rest

pub loop-job-preserved : goal.loop-job-preserved
loop-job-preserved g c =
    let before = c.loop-job.invariant in
    let steps = c.in-Some.ensures.steps in
    let is = c.serve_job.ensures in
    record {
      all = given_on c.loop-job.yielded _ _ _ _ before.all steps.0;
      left = omega (arith, before.left, steps.1, ap length steps.0);
      done = zip_more c.loop-job.yielded c.loop-job.dones.items _ c.in-Some.job _ _ c.push_reserved.ensures.items
          before.done is;
      rest = all_rest _ _ c.in-Some.job (λ job. IsNewJob g.P.PoolName.sizes g.N.BookName.sizes.shards
          job.link.session job.link.pump job.link.device.end job.link.device.failed job.link.mtu job.link.dump.plan
          job.link.dump.taken job.dump_wire) steps.0 before.rest;
      room = omega (
        arith,
        before.room,
        ap length steps.0,
        c.push_reserved.ensures.len,
        c.push_reserved.ensures.capacity,
      );
    }

pub returns : goal.returns
returns g c =
    let before = c.loop-job.invariant in
    zip_as c.loop-job.yielded _ c.loop-job.dones.items _
    (all_given c.loop-job.yielded _ _ _ before.all before.left c.in-None.ensures.steps.0) before.done

pub loop-job-init : goal.loop-job-init
loop-job-init g c =
    let gives = c.into_iter-job-iterator.ensures.into_iter_gives in
    let long = ap length gives.0 in
    record {
      all = gives.0;
      left = omega (arith, gives.1, long, c.args.jobs.ok.0);
      done = rw c.requires.room.0 tt;
      rest = all_as _ c.args.jobs.items (λ job. IsNewJob g.P.PoolName.sizes g.N.BookName.sizes.shards
          job.link.session job.link.pump job.link.device.end job.link.device.failed job.link.mtu job.link.dump.plan
          job.link.dump.taken job.dump_wire) gives.0 c.requires.fresh;
      room = omega (arith, long, c.requires.room.1, ap length c.requires.room.0, c.args.dones.ok.0);
    }
