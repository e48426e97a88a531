use Rattle.std.proofs.Common.{◌≡◌, ◌+◌, ◌≤◌, ◌++◌, [], None, All, length, map, vec_len, vec_capacity}
use Rattle.std.specs.Vec.Iter.{into_iter_items, into_iter_len}
use Rattle.serve_inputs.specs.Jobs.{IsNewJob}
use Rattle.run_resources.specs.Opened.{IsSessionSlot}
use Rattle.serve_inputs.proofs.jobs.line_up.Given as goal

abbrev pub invariant-loop-slot : goal.invariant-loop-slot
invariant-loop-slot g l = record {
  fresh : All (λ job. IsNewJob g.P.PoolName.sizes g.N.BookName.sizes.shards job.link.session job.link.pump
      job.link.device.end job.link.device.failed job.link.mtu job.link.dump.plan job.link.dump.taken job.dump_wire)
      l.jobs.items;
  unasked : All (λ job. job.link.dump.plan ≡ None) l.jobs.items;
  mtus : All (λ job. job.link.mtu ≡ l.fn.mtu) l.jobs.items;
  sessions : map (λ job. job.link.session) l.jobs.items ≡ map (λ d. d.session) l.yielded;
  names : map (λ job. job.link.pump.origin.name) l.jobs.items
      ++ map (λ s. g.S.Source.name s) (into_iter_items l.more_sources)
      ≡ map (λ s. g.S.Source.name s) l.fn.sources.items;
  wholes : map (λ job. job.link.pump.origin.whole) l.jobs.items
      ++ map (λ s. g.S.Source.whole s) (into_iter_items l.more_sources)
      ≡ map (λ s. g.S.Source.whole s) l.fn.sources.items;
  unread : All (λ s. g.S.Source.given s ≡ []) (into_iter_items l.more_sources);
  faults : map (λ job. job.link.pump.faults) l.jobs.items
      ++ map (λ s. g.S.Source.read_faults s) (into_iter_items l.more_sources)
      ≡ map (λ s. g.S.Source.read_faults s) l.fn.sources.items;
  wires : map (λ job. job.wire) l.jobs.items ++ into_iter_items l.more_wires ≡ l.fn.wires.items;
  rest : All (λ d. IsSessionSlot g.P.PoolName.sizes d.session d.device.end d.device.failed)
      (into_iter_items l.slot-iterator);
  all : l.yielded ++ into_iter_items l.slot-iterator ≡ l.fn.slots.items;
  left : into_iter_len l.slot-iterator ≡ length (into_iter_items l.slot-iterator);
  source_count : length (into_iter_items l.more_sources) ≡ length (into_iter_items l.slot-iterator);
  wire_count : length (into_iter_items l.slot-iterator) ≤ length (into_iter_items l.more_wires);
  room : vec_len l.jobs + length (into_iter_items l.slot-iterator) ≤ vec_capacity l.jobs;
}
