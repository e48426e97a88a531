-- What a run says of what it served.
use Rattle.std.specs.Prelude.{◌≡◌, ◌≢◌, ◌≤◌, ◌++◌, Some, length, drop, All}
use Rattle.std.specs.List.{range_with_len}
use Rattle.flake_base.specs.declared.session.End.TheVariants.{Left}
use Rattle.flake_model.specs.Run.{WasServed, all_commands, missing_writes}
use Rattle.flake_model.specs.Wire.{FaultsAre, KeptAre, WiresGrew}
use Rattle.pin_core.specs.declared.class.Class.{Class}
use Rattle.pinned_pool.specs.Claims.{count_of}
use Rattle.pinned_pool.specs.Ends.{End}
use Rattle.serve_model.specs.Demand.{demand_of}
use Rattle.serve_model.specs.Shown.{IsCounted}
use Rattle.check_files.specs.Named.{counted_times}
use Rattle.flake_run.specs.Opening.{AreOfFiles}
use Rattle.serve_inputs.specs.Dumped.{IsDumpTold, dump_texts}
use Rattle.serve_inputs.specs.Wires.{sent_on_wires}
use Rattle.flake_run.specs.Dumping.{puts_failed}
use Rattle.flake_run.specs.Task.{RunTask, dump_of, mtu_of, names_of, pool_of, shards_of, threshold_of}
use Rattle.flake_run.specs.Outside.{Outside, put_on, kept_by, wire_faults}
use Rattle.flake_run.specs.Outcome.{RunOutcome, ways, files_of, sources_of, givens_of, endeds_of}

pub record Served {W : Type 0} (task : RunTask) (before after : Outside W) (done : RunOutcome) : Type 0 where
  -- the sources that come back are those of the files that the words name
  pub of_files : AreOfFiles (names_of task) before.host.holds (sources_of done.sources)
  -- the requests were what these gave, and the journal has the parts of them that were run, in one history
  pub run : WasServed (givens_of (sources_of done.sources)) (endeds_of (sources_of done.sources)) done.ends done.journal
  -- a dump that was taken is of the journal, at a point of each shard: there the first session had made the calls below
  -- the one that was asked for, and no other
  pub dumped : IsDumpTold (dump_of task) (all_commands run.sessions) done.journal done.dump
  -- what was put on a wire grew by the texts of its session's replies, which the journal gives, or by the frames of
  -- these texts, where the words ask for them, and what was put on the wire behind them by the dump's text; or by a
  -- front of them, where it failed
  pub wires : WiresGrew (sent_on_wires (mtu_of task) run.sessions done.journal
      ++ dump_texts (all_commands run.sessions) done.journal done.dump) (put_on before) (put_on after)
  -- what the closed pool shows by the journal: a buffer is held for each fragment of a final value, as many were
  -- claimed as the commands may claim at most, a write without an entry found no free buffer, and each piece of an
  -- answer that has the threshold's bytes was pinned
  pub pool : End
  pub pool_is : done.pool ≡ Some pool
  pub shows : IsCounted (pool_of task) (threshold_of task) run.sessions done.journal pool
  pub held : (done.held.small ≡ pool.small) × (done.held.large ≡ pool.large)
  -- and every write has its entry, where the pool has as many buffers of each class as the commands may claim
  pub none_missing : ((class : Class) → demand_of class (all_commands run.sessions) ≤ count_of (pool_of task) class)
      → missing_writes run.sessions done.journal ≡ 0
  -- a wire that didn't fail keeps none of them back
  pub flushed : KeptAre (puts_failed done.ends done.dump) (kept_by before) (kept_by after)
  -- a session failed where its wire's count of faults rose, and else that count is as it was; so it is of the dump
  pub faults : FaultsAre (puts_failed done.ends done.dump) (wire_faults before) (wire_faults after)
  -- the wires past the sessions, and past the dump that was taken, are as handed in
  pub others : drop (length (puts_failed done.ends done.dump)) after.wires
      ≡ drop (length (puts_failed done.ends done.dump)) before.wires
  -- each file has its session, and each shard its history
  pub sessions : length done.ends ≡ length (names_of task)
  pub shards : length done.journal ≡ shards_of task
  -- no session was left before its input ended
  pub to_the_end : All (λ way. way ≢ Left) (ways done.ends)
  -- each file was opened once, and its source comes back
  pub opens : after.host.opens ≡ counted_times (length (names_of task)) before.host.opens
  pub sources : files_of done.sources ≡ range_with_len 0 (length (names_of task))
