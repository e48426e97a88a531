-- What a run of `check` says, by what it found.
use Rattle.std.proofs.Common.{◌≡◌, inl, inr, ℕ, List, Option, Some, None, IsNone, Result, IfOk, IfErr, refl, sym, ◌∙◌}
use Rattle.std.proofs.Common.{subst, ⊎_elim}
use Rattle.std.specs.List.{AllByRecursion}
use Rattle.flake_base.specs.Causes.{Rose}
use Rattle.flake_base.specs.Told.{HostTold, WireTold}
use Rattle.check_files.specs.Answer.{FailedBy, HasCauseIn, WereJudged}
use Rattle.check_files.specs.File.{file_names, file_wholes, file_givens, file_endeds, file_faults}
use Rattle.check_files.specs.Named.{Named, NoneFailed}
use Rattle.check_files.specs.declared.error.CheckError.{CheckError}
use Rattle.check_files.specs.declared.file.File.{File}
use Rattle.replay_check.specs.declared.verdict.Verdict.{Verdict}
use Rattle.replay_check.specs.declared.verdict.Verdict.TheVariants.{Same, Differs, BadJournal}
use Rattle.flake_run.specs.Checked.{Checked, ConcludesBy, IsConcluded, WasFound, IsStatus}
use Rattle.flake_run.specs.Finding.{found_by}
use Rattle.flake_run.specs.Outcome.{RunOutcome, SourceTold, GaveFront, sources_of}
use Rattle.flake_run.specs.Outside.{Outside, LeavesFiles, outside}
use Rattle.flake_run.specs.Refusals.{RunRefused}
use Rattle.flake_run.specs.declared.finding.Finding.{Finding}
use Rattle.flake_run.specs.declared.finding.Finding.TheVariants.{BadWords, OpenFault, ReadFault, TooLarge, BadLine}
use Rattle.flake_run.specs.declared.finding.Finding.TheVariants.{Judged, BadFrame, Missing, Memory}
use Rattle.flake_run.specs.declared.outcome.Refusal.TheVariants as refusal
use Rattle.flake_run.proofs.CheckedFiles.{told_from, is_found, memory_found}
use Rattle.flake_run.proofs.CheckedComplete.{checked_by}
use Rattle.flake_run.proofs.Ran.{says_since}

-- words that are refused
pub refused_words : {W : Type 0} (task : Option (List Named)) (before after : Outside W) (done : RunOutcome)
    → task ≡ None → RunRefused refusal.BadWords before after done → Checked task before after done
refused_words task before after done none refused =
    checked_by BadWords task before after done (record {
      status = refused.status;
      detail = refused.detail;
      said = refused.said;
      ends = refused.ends;
      journal = refused.journal;
      held = refused.held;
      pool = refused.pool;
      wires = refused.wires;
    })
    (subst IsNone (sym none) refl, record { sources_are = refused.sources; files = refused.files })

-- memory that is wanting before any file is opened
pub refused_memory : {W : Type 0} (task : Option (List Named)) (before after : Outside W) (done : RunOutcome)
    → RunRefused refusal.Memory before after done → Checked task before after done
refused_memory task before after done refused =
    checked_by Memory task before after done (record {
      status = refused.status;
      detail = refused.detail;
      said = refused.said;
      ends = refused.ends;
      journal = refused.journal;
      held = refused.held;
      pool = refused.pool;
      wires = refused.wires;
    })
    (inl (record { sources_are = refused.sources; files = refused.files }))

-- where no say failed before
pub status_since : (finding : Finding) (old mid new : HostTold) (status : ℕ) → mid.say_faults ≡ old.say_faults
    → IsStatus finding mid new status → IsStatus finding old new status
status_since BadWords old mid new status same is = is
status_since (OpenFault n) old mid new status same is = is
status_since (ReadFault n) old mid new status same is = is
status_since (TooLarge n) old mid new status same is = is
status_since (BadLine line) old mid new status same is = is
status_since (Judged Same) old mid new status same is = ⊎_elim (λ ok. inl (ok.0, ok.1 ∙ same))
    (λ failed. inr (failed.0, subst (λ n. Rose n new.say_faults) same failed.1)) is
status_since (Judged (Differs session place expected found)) old mid new status same is = is
status_since (Judged (BadJournal shard place)) old mid new status same is = is
status_since (BadFrame number) old mid new status same is = is
status_since (Missing call frame) old mid new status same is = is
status_since Memory old mid new status same is = is

module _ {S W : Type 0} (tells : S → SourceTold) (wires_tell : W → WireTold)
    (task : Option (List Named)) (words : List Named) (answer : Result Verdict CheckError)
    (host mid now : HostTold) (wires after : List W) (before : RunOutcome) (files : List (File S)) where
  concluded_since : (finding : Finding) → mid.said ≡ host.said → mid.say_faults ≡ host.say_faults
      → IsConcluded finding (outside mid wires wires_tell) (outside now after wires_tell) before
      → IsConcluded finding (outside host wires wires_tell) (outside now after wires_tell)
      (record before { sources = told_from tells 0 files })
  concluded_since finding said same is = record {
    status = status_since finding host mid now before.status same is.status;
    detail = is.detail;
    said = says_since _ host mid now said same is.said;
    ends = is.ends;
    journal = is.journal;
    held = is.held;
    pool = is.pool;
    wires = is.wires;
  }

  -- files that were opened, or of which one did not open
  pub checked_all : task ≡ Some words → AllByRecursion GaveFront (sources_of (told_from tells 0 files))
      → IfOk answer (WereJudged words host mid (file_names (λ s. (tells s).name) files)
      (file_wholes (λ s. (tells s).whole) files) (file_givens (λ s. (tells s).given) files)
      (file_endeds (λ s. (tells s).ended) files))
      → IfOk answer (λ v. NoneFailed (file_faults (λ s. (tells s).faults) files))
      → IfErr answer (HasCauseIn words host mid (file_names (λ s. (tells s).name) files)
      (file_wholes (λ s. (tells s).whole) files) (file_givens (λ s. (tells s).given) files)
      (file_endeds (λ s. (tells s).ended) files))
      → IfErr answer (λ e. FailedBy e (file_faults (λ s. (tells s).faults) files)) → mid.said ≡ host.said
      → mid.say_faults ≡ host.say_faults → LeavesFiles mid now
      → ConcludesBy (found_by answer) (outside mid wires wires_tell) (outside now after wires_tell) before
      → Checked task (outside host wires wires_tell) (outside now after wires_tell)
      (record before { sources = told_from tells 0 files })
  checked_all task_is fronts judged none stopped failed said same leaves concludes =
      ⊎_elim
      (λ is. checked_by (found_by answer) task (outside host wires wires_tell) (outside now after wires_tell)
      (record before { sources = told_from tells 0 files })
      (concluded_since (found_by answer) said same is)
      (subst (λ t. WasFound (found_by answer) t host now (told_from tells 0 files)) (sym task_is)
      (is_found tells answer words host mid now files fronts judged none stopped failed said same leaves)))
      (λ is. checked_by Memory task (outside host wires wires_tell) (outside now after wires_tell)
      (record before { sources = told_from tells 0 files }) (concluded_since Memory said same is)
      (subst (λ t. WasFound Memory t host now (told_from tells 0 files)) (sym task_is)
      (memory_found tells answer words host mid now files fronts judged stopped failed said same leaves)))
      concludes
