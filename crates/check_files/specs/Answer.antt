-- What the files of a host come to.
use Rattle.std.specs.Prelude.{◌≡◌, ◌≢◌, ℕ, Bool, List, Option, Some, take, slice_get}
use Rattle.flake_base.specs.Causes.{Rose}
use Rattle.flake_base.specs.Told.{HostTold}
use Rattle.replay_check.specs.declared.verdict.Verdict.{Verdict}
use Rattle.check_files.specs.Files.{AllReadToEnd}
use Rattle.check_files.specs.Judged.{IsJudged}
use Rattle.check_files.specs.Named.{Named, AreUnread, FilesOpened, FileFails, NoneFailed}
use Rattle.check_files.specs.Named.{givens_unread, endeds_unread}
use Rattle.check_files.specs.Stopped.{WhyStopped, ReadsBy}
use Rattle.check_files.specs.declared.error.CheckError.{CheckError}
use Rattle.check_files.specs.declared.error.CheckError.TheVariants.{OpenFault, ReadFault, TooLarge, BadLine, Memory}

-- the count of failed reads of one file rose from 0, and no other
pub record FailedAt (file : ℕ) (faults : List ℕ) : Type 0 where
  pub count : ℕ
  pub count_is : slice_get faults file ≡ Some count
  pub rose : Rose 0 count
  pub others : (k n : ℕ) → k ≢ file → slice_get faults k ≡ Some n → n ≡ 0

-- after a failed read one count rose, and else none did
abbrev pub FailedBy : CheckError → List ℕ → Type 0
FailedBy (OpenFault file) faults = NoneFailed faults
FailedBy (ReadFault file) faults = FailedAt file faults
FailedBy (TooLarge file) faults = NoneFailed faults
FailedBy (BadLine line) faults = NoneFailed faults
FailedBy Memory faults = NoneFailed faults

-- all files were opened, were read to their ends, and what they gave is judged so
pub record WereJudged (words : List Named) (old new : HostTold) (names : List Named)
    (wholes : List (Option (List ℕ))) (givens : List (List ℕ)) (endeds : List Bool) (verdict : Verdict) : Type 0 where
  pub opened : FilesOpened words old new names wholes
  pub judged : IsJudged givens verdict
  pub ended : AllReadToEnd endeds

-- all files were opened, and what they gave has no verdict
pub record WereStopped (words : List Named) (old new : HostTold) (names : List Named)
    (wholes : List (Option (List ℕ))) (givens : List (List ℕ)) (endeds : List Bool) (error : CheckError) : Type 0 where
  pub opened : FilesOpened words old new names wholes
  pub stopped : WhyStopped givens error
  pub reads : ReadsBy error (givens_unread words) givens (endeds_unread words) endeds

-- those in front of one that did not open were, and were not read
pub record WasUnopened (words : List Named) (old new : HostTold) (names : List Named)
    (wholes : List (Option (List ℕ))) (givens : List (List ℕ)) (endeds : List Bool) (file : ℕ) : Type 0 where
  pub fails : FileFails words file old new names wholes
  pub unread : AreUnread (take file words) givens endeds

-- why files of these names, which hold this, gave this and are so far at their ends, have no verdict
abbrev pub HasCauseIn : List Named → HostTold → HostTold → List Named → List (Option (List ℕ)) → List (List ℕ)
    → List Bool → CheckError → Type 0
HasCauseIn words old new names wholes givens endeds (OpenFault file) =
    WasUnopened words old new names wholes givens endeds file
HasCauseIn words old new names wholes givens endeds (ReadFault file) =
    WereStopped words old new names wholes givens endeds (ReadFault file)
HasCauseIn words old new names wholes givens endeds (TooLarge file) =
    WereStopped words old new names wholes givens endeds (TooLarge file)
HasCauseIn words old new names wholes givens endeds (BadLine line) =
    WereStopped words old new names wholes givens endeds (BadLine line)
HasCauseIn words old new names wholes givens endeds Memory =
    WereStopped words old new names wholes givens endeds Memory
