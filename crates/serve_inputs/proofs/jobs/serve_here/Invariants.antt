use Rattle.std.proofs.Common.{◌++◌, ◌≡◌, ◌+◌, ◌≤◌, All, length, vec_len, vec_capacity}
use Rattle.std.specs.List.{AllZip}
use Rattle.std.specs.Vec.Iter.{into_iter_items, into_iter_len}
use Rattle.serve_inputs.specs.Jobs.{IsNewJob, IsDone}
use Rattle.serve_inputs.proofs.jobs.serve_here.Given as goal

abbrev pub invariant-loop-job : goal.invariant-loop-job
invariant-loop-job g l = record {
  all : l.yielded ++ into_iter_items l.job-iterator ≡ l.fn.jobs.items;
  left : into_iter_len l.job-iterator ≡ length (into_iter_items l.job-iterator);
  done : AllZip (λ job done. IsDone job.link.mtu (g.C.WireCalls.put_may l.calls)
      (g.C.WireCalls.flush_may l.calls) g.P.PoolName.sizes g.N.BookName.sizes.shards job.link.session
      job.link.pump job.link.dump.plan job.wire
      job.dump_wire done.account.end done.account.sent done.account.mine done.account.seat done.account.pump
      done.wire done.dump) l.yielded l.dones.items;
  rest : All (λ job. IsNewJob g.P.PoolName.sizes g.N.BookName.sizes.shards job.link.session job.link.pump
      job.link.device.end job.link.device.failed job.link.mtu job.link.dump.plan job.link.dump.taken job.dump_wire)
      (into_iter_items l.job-iterator);
  room : vec_len l.dones + length (into_iter_items l.job-iterator) ≤ vec_capacity l.dones;
}
