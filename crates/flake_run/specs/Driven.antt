-- What sources have done that were driven by a schedule.
use Rattle.std.specs.Prelude.{◌≡◌, ◌≢◌, ◌≤◌, ◌||◌, ℕ, ◌==◌, if◌then◌else◌, Bool, false, List, [], ◌∷◌}
use Rattle.std.specs.Prelude.{Option, Some, length, map, drop}
use Rattle.std.specs.List.{AllByRecursion, flat_map, list_any, range_with_len}
use Rattle.flake_base.specs.Told.{HostTold, WireTold}
use Rattle.flake_base.specs.declared.journal.Entry.{Entry}
use Rattle.flake_base.specs.declared.session.SessionEnd.{SessionEnd}
use Rattle.flake_model.specs.Run.{WasServed, all_commands, missing_writes, wire_texts}
use Rattle.flake_model.specs.Wire.{FaultIs, FaultsAre, KeptAre, WiresGrew}
use Rattle.pin_core.specs.declared.class.Class.{Class}
use Rattle.pin_core.specs.declared.sizes.Sizes as pool
use Rattle.pinned_pool.specs.Claims.{count_of}
use Rattle.pinned_pool.specs.Ends.{End}
use Rattle.schedule_text.specs.declared.line.Line.{Line}
use Rattle.run_resources.specs.Opened.{pool_sizes}
use Rattle.run_resources.specs.declared.sizes.RunSizes.{RunSizes}
use Rattle.serve_model.specs.Demand.{demand_of}
use Rattle.serve_model.specs.Shown.{IsCounted}
use Rattle.transcript_model.specs.Lines.{EventLine, transcript_line}
use Rattle.transcript_model.specs.Transcript.{IsSaid, IsTranscript}
use Rattle.drive_script.specs.Says.{PrintsText}
use Rattle.drive_told.specs.Together.{driven_run}
use Rattle.flake_run.specs.Causes.{AreCountsOf, highest_by}
use Rattle.flake_run.specs.Checked.{IsConcluded}
use Rattle.flake_run.specs.Outcome.{RunOutcome, SourceTold, IsUntouched, GaveFront, ways, files_of, sources_of}
use Rattle.flake_run.specs.Outcome.{source_names, wholes_of, givens_of, endeds_of, read_faults_of}
use Rattle.flake_run.specs.Outside.{Outside, LeavesFiles, wires_told, put_on, kept_by, wire_faults}
use Rattle.flake_run.specs.Schedule.{HasSchedule, IsUndriven}
use Rattle.flake_run.specs.Serving.{IsServedRun}
use Rattle.flake_run.specs.declared.finding.Finding.{Finding}
use Rattle.flake_run.specs.declared.outcome.Detail.TheVariants.{Nothing}

-- Sources were served as a schedule asks, and the lines of the transcript were said, until a say failed.
pub record IsDrivenRun {W : Type 0} (z : pool.Sizes) (ring threshold : ℕ) (schedule : List Line) (failed : Bool)
    (givens : List (List ℕ)) (endeds : List Bool) (ends : List SessionEnd) (journal : List (List Entry)) (closed : End)
    (olds news : List W) (told : W → WireTold) (old new : HostTold) : Type 0 where
  pub run : IsServedRun z threshold givens endeds ends journal closed olds news told
  pub lines : List EventLine
  pub transcript : IsTranscript (driven_run z ring threshold (all_commands run.run.sessions) ends journal closed)
      (map told olds) (map told news) schedule lines
  pub said : PrintsText false failed (flat_map transcript_line lines) old new

-- and the schedule is what another source gave
pub record IsDrivenBy {W : Type 0} (sizes : RunSizes) (text : List ℕ) (ended failed : Bool) (givens : List (List ℕ))
    (endeds : List Bool) (ends : List SessionEnd) (journal : List (List Entry)) (closed : End) (olds news : List W)
    (told : W → WireTold) (old new : HostTold) : Type 0 where
  pub schedule : List Line
  pub lines : HasSchedule (length givens) text ended schedule
  pub run : IsDrivenRun (pool_sizes (length givens) sizes) sizes.ring sizes.threshold schedule failed givens endeds ends
      journal closed olds news told old new

-- the highest status of the sessions; or 5 where a put or a say failed and memory was not wanting
abbrev pub status_with : Bool → ℕ → ℕ
status_with failed highest = if highest == 6 then 6 else if failed then 5 else highest

abbrev pub some_put_failed : List SessionEnd → Bool
some_put_failed ends = list_any (λ (end : SessionEnd). end.failed) ends

-- The sources that come back behind the first were driven by the schedule that the first gave.
pub record WasDriven {W : Type 0} (sizes : RunSizes) (before after : Outside W) (done : RunOutcome) : Type 0 where
  pub first : SourceTold
  pub rest : List SourceTold
  pub sources_are : sources_of done.sources ≡ first ∷ rest
  -- these are the schedule's lines, and its source was read to its end
  pub schedule : List Line
  pub lines : HasSchedule (length rest) first.given first.ended schedule
  -- the requests were what the rest gave, and the journal has the parts of them that were run, in one history
  pub run : WasServed (givens_of rest) (endeds_of rest) done.ends done.journal
  -- what was put on a wire grew by the texts of its session's replies, which the journal gives; or by a front of them,
  -- where it failed
  pub wires : WiresGrew (wire_texts run.sessions done.journal) (put_on before) (put_on after)
  -- what the closed pool shows by the journal: a buffer is held for each fragment of a final value, as many were
  -- claimed as the commands may claim at most, a write without an entry found no free buffer, and each piece of an
  -- answer that has the threshold's bytes was pinned
  pub pool : End
  pub pool_is : done.pool ≡ Some pool
  pub shows : IsCounted (pool_sizes (length rest) sizes) sizes.threshold run.sessions done.journal pool
  pub held : (done.held.small ≡ pool.small) × (done.held.large ≡ pool.large)
  -- and every write has its entry, where the pool has as many buffers of each class as the commands may claim
  pub none_missing : ((class : Class)
      → demand_of class (all_commands run.sessions) ≤ count_of (pool_sizes (length rest) sizes) class)
      → missing_writes run.sessions done.journal ≡ 0
  -- a wire that didn't fail keeps none of them back
  pub flushed : KeptAre (map (λ end. end.failed) done.ends) (kept_by before) (kept_by after)
  -- a session failed where its wire's count of faults rose, and else that count is as it was
  pub faults : FaultsAre (map (λ end. end.failed) done.ends) (wire_faults before) (wire_faults after)
  -- the wires past the sessions are as handed in
  pub others : drop (length done.ends) after.wires ≡ drop (length done.ends) before.wires
  -- each of the rest has its session, and each shard its history
  pub sessions : length done.ends ≡ length rest
  pub shards : length done.journal ≡ sizes.shards
  -- no read of the schedule failed, and one of the rest exactly where the end says so
  pub calm : first.faults ≡ 0
  pub reads : AreCountsOf (ways done.ends) (read_faults_of rest)
  -- whether a say failed: its count of faults rose then, and else is as it was
  pub failed : Bool
  pub says : FaultIs failed before.host.say_faults after.host.say_faults
  -- what was said is a whole transcript of the schedule, by these sessions, this journal and these wires, with what is
  -- held behind it; or a front of one, where a say failed
  pub said : IsSaid
      (driven_run (pool_sizes (length rest) sizes) sizes.ring sizes.threshold (all_commands run.sessions) done.ends
      done.journal pool) (wires_told before) (wires_told after) schedule failed before.host.said after.host.said
  -- the status is by the ends, and by what failed
  pub status : done.status ≡ status_with (failed || some_put_failed done.ends) (highest_by (ways done.ends))
  pub detail : done.detail ≡ Nothing

-- Nothing was driven, and it was said and answered why. Nothing was read of a source behind the first.
pub record NotDriven {W : Type 0} (before after : Outside W) (done : RunOutcome) : Type 0 where
  pub finding : Finding
  pub concluded : IsConcluded finding before after done
  pub first : SourceTold
  pub rest : List SourceTold
  pub sources_are : sources_of done.sources ≡ first ∷ rest
  pub unread : AllByRecursion IsUntouched rest
  pub undriven : IsUndriven finding (length rest) first.given first.ended 0 first.faults

-- what came of sources of these names, which hold this, and which all come back
pub record CameOf {W : Type 0} (sizes : RunSizes) (names : List (List ℕ)) (wholes : List (Option (List ℕ)))
    (before after : Outside W) (done : RunOutcome) : Type 0 where
  pub driven : done.ends ≢ [] → WasDriven sizes before after done
  pub refused : done.ends ≡ [] → NotDriven before after done
  pub leaves : LeavesFiles before.host after.host
  pub files : files_of done.sources ≡ range_with_len 0 (length names)
  pub names_are : source_names (sources_of done.sources) ≡ names
  pub wholes_are : wholes_of (sources_of done.sources) ≡ wholes
  pub fronts : AllByRecursion GaveFront (sources_of done.sources)
