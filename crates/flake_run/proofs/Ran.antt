-- What is known of a run that served its files, and the clauses that this gives.
use Rattle.std.proofs.Common.{◌≡◌, ◌≢◌, ◌⊎◌, ◌≤◌, ◌<◌, ℕ, Bool, false, true, List, [], ◌∷◌, Option, Some, All}
use Rattle.std.proofs.Common.{length, refl, sym, ap, ◌∙◌, subst}
use Rattle.std.specs.List.{AllByRecursion, range_with_len, list_any}
use Rattle.std.proofs.lemmas.List.{length-map}
use Rattle.std.proofs.lemmas.List.FromFn.{length-range_with_len}
use Rattle.flake_base.specs.Causes.{Rose}
use Rattle.flake_base.specs.Growth.{Grew}
use Rattle.flake_base.specs.Told.{HostTold, WireTold}
use Rattle.flake_base.specs.declared.journal.Entry.{Entry}
use Rattle.flake_base.specs.declared.session.End.TheVariants.{Left}
use Rattle.flake_base.specs.declared.session.SessionEnd.{SessionEnd}
use Rattle.command_pump.specs.Pump.{EndFaults}
use Rattle.pin_core.specs.declared.class.Held.{Held}
use Rattle.pinned_pool.specs.Ends.{End as PoolEnd}
use Rattle.run_resources.specs.Opened.{pool_sizes}
use Rattle.session_serve.specs.Ran.{AreReads}
use Rattle.flake_run.specs.declared.outcome.Detail.TheVariants.{Nothing}
use Rattle.flake_run.specs.declared.outcome.Opened.{Opened}
use Rattle.flake_run.specs.Opening.{AreOfFiles, HaveOpened}
use Rattle.report_text.specs.declared.dump.DumpLine.{DumpLine}
use Rattle.report_text.specs.declared.dump.DumpLine.TheVariants.{Untaken}
use Rattle.flake_run.specs.Task.{Job, RunTask, wires_of}
use Rattle.flake_run.specs.Outside.{LeavesFiles}
use Rattle.flake_run.specs.Outcome.{RunOutcome, SourceTold, IsUntouched, ways, files_of, sources_of, givens_of}
use Rattle.flake_run.specs.Outcome.{endeds_of, read_faults_of}
use Rattle.flake_run.specs.Dumping.{dump_line_of, lines_failed}
use Rattle.flake_run.specs.Serving.{IsDumpingRun}
use Rattle.flake_run.specs.Causes.{AreCountsOf, highest_by}
use Rattle.flake_run.specs.Said.{PrintsStatus, served_text}
use Rattle.flake_run.proofs.Served.{ends_served}

-- the statuses of what was served
abbrev pub IsServedStatus : ℕ → Type 0
IsServedStatus status = (status ≡ 0) ⊎ (status ≡ 3) ⊎ (status ≡ 4) ⊎ (status ≡ 5) ⊎ (status ≡ 6)

-- what a report of sessions has said and answered
pub record Reported (old new : HostTold) (status : ℕ) (shows : Bool) (journal : List (List Entry))
    (ends : List SessionEnd) (dump : DumpLine) (held : Held) : Type 0 where
  pub said : PrintsStatus (served_text shows journal ends dump held) old new
  pub statuses : IsServedStatus status
  pub by_end : status ≢ 5 → status ≢ 6 → (status ≡ highest_by (ways ends))
      × (list_any (λ (failed : Bool). failed) (lines_failed ends dump) ≡ false) × (new.say_faults ≡ old.say_faults)
  pub failed : status ≡ 5 → (highest_by (ways ends) ≢ 6)
      × ((list_any (λ (failed : Bool). failed) (lines_failed ends dump) ≡ true) ⊎ Rose old.say_faults new.say_faults)
  pub untaken : dump ≡ Untaken → status ≡ 6

-- the words were accepted
pub record IsTask {W : Type 0} (task : RunTask) (job : Job) (wires : List W) : Type 0 where
  pub task_is : task ≡ Some job
  pub some_names : 0 < length job.names
  pub some_wires : wires_of job ≤ length wires

-- the files were opened and their sessions served, and that was said
pub record Ran {W : Type 0} (tells : W → WireTold) (job : Job) (host now : HostTold) (wires after : List W)
    (done : RunOutcome) : Type 0 where
  pub detail_is : done.detail ≡ Nothing
  -- the files were opened
  pub between : HostTold
  pub opened : HaveOpened job.names host between
  pub files : LeavesFiles between now
  pub files_are : files_of done.sources ≡ range_with_len 0 (length job.names)
  pub of_files : AreOfFiles job.names host.holds (sources_of done.sources)
  pub pool : PoolEnd
  pub pool_is : done.pool ≡ Some pool
  pub held : (done.held.small ≡ pool.small) × (done.held.large ≡ pool.large)
  pub run : IsDumpingRun (pool_sizes (length job.names) job.sizes) job.sizes.threshold
      (givens_of (sources_of done.sources))
      (endeds_of (sources_of done.sources)) done.ends done.journal pool job.sizes.dump
      job.sizes.mtu done.dump wires after tells
  pub shards : length done.journal ≡ job.sizes.shards
  pub reads : AreCountsOf (ways done.ends) (read_faults_of (sources_of done.sources))
  pub to_the_end : All (λ way. way ≢ Left) (ways done.ends)
  pub report : Reported host now done.status job.journal done.journal done.ends (dump_line_of job.sizes.dump done.dump)
      done.held

-- there are as many sources, and as many sessions, as files
pub sources_are : (sources : List (Opened SourceTold)) (n : ℕ) → files_of sources ≡ range_with_len 0 n
    → length sources ≡ n
sources_are sources n is = sym (length-map sources (λ (one : Opened SourceTold). one.file)) ∙ ap length is
    ∙ length-range_with_len 0 n

pub as_many_sources : (names : List (List ℕ)) (holds : List ℕ → Option (List ℕ)) (sources : List SourceTold)
    → AreOfFiles names holds sources → length sources ≡ length names
as_many_sources names holds sources of = sym (length-map sources (λ (source : SourceTold). source.name))
    ∙ ap length of.names_are

pub sessions_are : {W : Type 0} (tells : W → WireTold) (job : Job) (host now : HostTold) (wires after : List W)
    (done : RunOutcome) → Ran tells job host now wires after done
    → length done.ends ≡ length job.names
sessions_are tells job host now wires after done r =
    ends_served _ _ _ _ r.run.run ∙ length-map (sources_of done.sources) (λ (source : SourceTold). source.given)
    ∙ as_many_sources job.names host.holds (sources_of done.sources) r.of_files

-- said behind a call that said nothing
pub says_since : (text : List ℕ) (old mid new : HostTold) → mid.said ≡ old.said → mid.say_faults ≡ old.say_faults
    → PrintsStatus text mid new → PrintsStatus text old new
says_since text old mid new said count says = record {
  front = subst (λ o. Grew true text o new.said) said says.front;
  whole = λ quiet. subst (λ o. Grew false text o new.said) said
      (says.whole (λ rose. quiet (subst (λ n. Rose n new.say_faults) count rose)));
}

-- sources of which nothing was read before
pub counts_from : (ends : List SessionEnd) (sources : List SourceTold) (nows : List ℕ)
    → AllByRecursion IsUntouched sources → AreReads ends (read_faults_of sources) nows → AreCountsOf (ways ends) nows
counts_from [] [] [] unread reads = refl
counts_from [] [] (now ∷ nows) unread reads = absurd reads
counts_from [] (source ∷ sources) nows unread reads = absurd reads
counts_from (end ∷ ends) [] nows unread reads = absurd reads
counts_from (end ∷ ends) (source ∷ sources) [] unread reads = absurd reads
counts_from (end ∷ ends) (source ∷ sources) (now ∷ nows) unread reads = (
  subst (λ n. EndFaults end.end n now) unread.0.faults reads.0,
  counts_from ends sources nows unread.1 reads.1,
)
