-- What a run of `drive` does.
use Rattle.std.specs.Prelude.{◌≡◌, ◌≢◌, ◌⊎◌, ◌≤◌, ◌∷◌, ℕ, List, [], Option, Some, All, IsSomeAnd, IfSome, length, map}
use Rattle.std.specs.Prelude.{slice_get}
use Rattle.std.specs.List.{AllByRecursion, range_with_len}
use Rattle.flake_base.specs.Causes.{Rose}
use Rattle.flake_base.specs.Told.{HostTold}
use Rattle.journal_text.specs.Lines.{lines_of}
use Rattle.schedule_text.specs.Reading.{AreScheduleLines}
use Rattle.schedule_text.specs.declared.line.Line.{Line}
use Rattle.check_files.specs.Named.{AreDistinct}
use Rattle.flake_run.specs.Causes.{SomeWireFailed}
use Rattle.flake_run.specs.Checked.{IsConcluded, NoneOpened}
use Rattle.flake_run.specs.Complete.{AreRequests, MayHoldRequests}
use Rattle.flake_run.specs.Driven.{WasDriven}
use Rattle.flake_run.specs.DriveTask.{DriveJob, IsUndrivable, served_names}
use Rattle.flake_run.specs.Opening.{AllOpened, FailsToOpen}
use Rattle.flake_run.specs.Outcome.{RunOutcome, SourceTold, IsUntouched, MayHold, files_of, sources_of, read_faults_of}
use Rattle.flake_run.specs.Outside.{Outside, LeavesFiles}
use Rattle.flake_run.specs.Schedule.{IsUndriven, schedule_limit}
use Rattle.flake_run.specs.declared.finding.Finding.{Finding}
use Rattle.flake_run.specs.declared.finding.Finding.TheVariants.{BadWords, OpenFault, ReadFault, TooLarge, BadLine}
use Rattle.flake_run.specs.declared.finding.Finding.TheVariants.{Judged, BadFrame, Missing, Memory}
use Rattle.flake_run.specs.declared.outcome.Detail.TheVariants.{Nothing}
use Rattle.flake_run.specs.declared.outcome.Opened.{Opened}

-- The files in front of the one of this number were opened, and its open failed. Nothing was read of the sources.
pub record OneFails (file : ℕ) (names : List (List ℕ)) (old new : HostTold) (sources : List (Opened SourceTold)) :
    Type 0 where
  pub between : HostTold
  pub fails : FailsToOpen names old between (sources_of sources)
  pub number : length sources ≡ file
  pub leaves : LeavesFiles between new
  pub files : files_of sources ≡ range_with_len 0 file

-- All files were opened, the schedule's first of all, but it gave none. Nothing was read of the rest.
pub record NoneDriven (finding : Finding) (names : List (List ℕ)) (old new : HostTold)
    (sources : List (Opened SourceTold)) : Type 0 where
  pub opened : AllOpened (range_with_len 0 (length names)) names old new sources
  pub first : SourceTold
  pub rest : List SourceTold
  pub sources_are : sources_of sources ≡ first ∷ rest
  pub unread : AllByRecursion IsUntouched rest
  pub undriven : IsUndriven finding (length rest) first.given first.ended 0 first.faults

-- the words are a task, for which there are wires
abbrev pub IsAccepted : {W : Type 0} → Option DriveJob → Outside W → (DriveJob → Type 0) → Type 0
IsAccepted task before Holds =
    IsSomeAnd task (λ job. (length (served_names job) ≤ length before.wires) × Holds job)

-- why nothing was driven
abbrev pub WasRefused : {W : Type 0} → Finding → Option DriveJob → Outside W → HostTold → List (Opened SourceTold)
    → Type 0
WasRefused BadWords task before new sources = IsUndrivable task before × NoneOpened before.host new sources
WasRefused (OpenFault file) task before new sources =
    IsAccepted task before (λ job. OneFails file job.names before.host new sources)
WasRefused (ReadFault file) task before new sources =
    IsAccepted task before (λ job. NoneDriven (ReadFault file) job.names before.host new sources)
WasRefused (TooLarge file) task before new sources =
    IsAccepted task before (λ job. NoneDriven (TooLarge file) job.names before.host new sources)
WasRefused (BadLine line) task before new sources =
    IsAccepted task before (λ job. NoneDriven (BadLine line) job.names before.host new sources)
WasRefused (Judged verdict) task before new sources = ⊥
WasRefused (BadFrame number) task before new sources = ⊥
WasRefused (Missing call frame) task before new sources = ⊥
WasRefused Memory task before new sources =
    NoneOpened before.host new sources
    ⊎ ((file : ℕ) × IsAccepted task before (λ job. OneFails file job.names before.host new sources))
    ⊎ IsAccepted task before (λ job. NoneDriven Memory job.names before.host new sources)

-- Nothing was served. It is said why and answered; the wires are as handed in, and there is no history and no pool.
pub record NothingServed {W : Type 0} (task : Option DriveJob) (before after : Outside W) (done : RunOutcome) : Type 0
  where
    pub finding : Finding
    pub concluded : IsConcluded finding before after done
    pub refused : WasRefused finding task before after.host done.sources

-- The files were opened, and those behind the schedule's were driven by it.
pub record DroveFiles {W : Type 0} (job : DriveJob) (before after : Outside W) (done : RunOutcome) : Type 0 where
  -- the sources that come back are those of the files that the words name
  pub opened : AllOpened (range_with_len 0 (length job.names)) job.names before.host after.host done.sources
  -- the headline, and what was said of it
  pub driven : WasDriven job.sizes before after done

-- memory was not wanting, and no count of failed calls rose
pub record NoCallFailed {W : Type 0} (job : DriveJob) (before after : Outside W) (done : RunOutcome) : Type 0 where
  pub memory : done.status ≢ 6
  pub opens : All (λ name. Rose (before.host.open_faults name) (after.host.open_faults name) → ⊥) job.names
  pub reads : All (λ count. count ≡ 0) (read_faults_of (sources_of done.sources))
  pub says : Rose before.host.say_faults after.host.say_faults → ⊥
  pub puts : SomeWireFailed (length (served_names job)) before after → ⊥

-- a schedule that has no more bytes than it may, and is of its form
pub record IsScheduleText (sessions : ℕ) (text : List ℕ) : Type 0 where
  pub within : length text ≤ schedule_limit
  pub schedule : List Line
  pub lines : AreScheduleLines sessions (lines_of text) schedule

-- by what the sources gave, the first may hold such a schedule, and the rest whole requests
pub record MayDrive (sources : List SourceTold) : Type 0 where
  pub first : SourceTold
  pub rest : List SourceTold
  pub sources_are : sources ≡ first ∷ rest
  pub text : List ℕ
  pub held : MayHold text first
  pub schedule : IsScheduleText (length rest) text
  pub requests : AllByRecursion MayHoldRequests rest

-- the host tells that it holds such under the names
pub record AreDrivable (job : DriveJob) (host : HostTold) : Type 0 where
  pub text : List ℕ
  pub text_is : slice_get (map host.holds job.names) 0 ≡ Some (Some text)
  pub schedule : IsScheduleText (length (served_names job)) text
  pub requests : All (λ name. IsSomeAnd (host.holds name) AreRequests) (served_names job)

pub record Drove {W : Type 0} (task : Option DriveJob) (before after : Outside W) (done : RunOutcome) : Type 0 where
  -- where something was served, the words were accepted, and this was done
  pub served : done.ends ≢ [] → IsAccepted task before (λ job. DroveFiles job before after done)
  -- where nothing was, this is why
  pub refused : done.ends ≡ [] → NothingServed task before after done
  -- 0, 3 and 5 come only where something was served, and so does 4 that is not the schedule's
  pub some : (done.status ≡ 0) ⊎ (done.status ≡ 3) ⊎ (done.status ≡ 5) ⊎ ((done.status ≡ 4) × (done.detail ≡ Nothing))
      → done.ends ≢ []
  -- bad words and too few wires are answered by 1 and by nothing else, but that memory was wanting
  pub bad_words : done.status ≢ 6 → IsUndrivable task before → done.status ≡ 1
  -- where the words are accepted and nothing failed, a schedule and whole requests give status 0
  pub whole : IfSome task (λ job. length (served_names job) ≤ length before.wires → NoCallFailed job before after done
      → MayDrive (sources_of done.sources) → done.status ≡ 0)
  -- and so do those that the host tells to be that, where no name stands twice
  pub told : IfSome task (λ job. length (served_names job) ≤ length before.wires → NoCallFailed job before after done
      → AreDistinct job.names → AreDrivable job before.host → done.status ≡ 0)
