-- What a run of `check` does.
use Rattle.std.specs.Prelude.{◌≡◌, ◌≢◌, ◌⊎◌, ◌≤◌, ℕ, ◌<◌, true, false, List, [], Option, Some, None, length, map, ⊤}
use Rattle.std.specs.Prelude.{take, slice_get, IsNone, IsSome, IsSomeAnd, IfSome}
use Rattle.std.specs.List.{AllByRecursion}
use Rattle.flake_base.specs.Causes.{Rose}
use Rattle.flake_base.specs.Told.{HostTold}
use Rattle.flake_base.specs.declared.journal.Entry.{Entry}
use Rattle.journal_text.specs.Lines.{lines_of}
use Rattle.journal_text.specs.Reading.{AreJournalLines}
use Rattle.check_files.specs.Files.{file_limit}
use Rattle.check_files.specs.Judged.{IsJudged}
use Rattle.check_files.specs.Named.{Named, AreDistinct, NotOpened, held_by, names_in}
use Rattle.check_files.specs.Stopped.{WhyStopped}
use Rattle.check_files.specs.declared.error.CheckError.TheVariants as errors
use Rattle.replay_check.specs.declared.verdict.Verdict.TheVariants.{Same}
use Rattle.flake_run.specs.Outside.{Outside, LeavesFiles}
use Rattle.flake_run.specs.Outcome.{RunOutcome, SourceTold, IsUntouched, MayHold, sources_of, givens_of}
use Rattle.flake_run.specs.Outcome.{read_faults_of, none_held}
use Rattle.flake_run.specs.Opening.{AllOpened}
use Rattle.flake_run.specs.Said.{PrintsStatus}
use Rattle.flake_run.specs.Files.{at_places, named_places}
use Rattle.flake_run.specs.Finding.{finding_status, finding_detail, finding_text}
use Rattle.flake_run.specs.declared.finding.Finding.{Finding}
use Rattle.flake_run.specs.declared.finding.Finding.TheVariants.{BadWords, OpenFault, ReadFault, TooLarge, BadLine}
use Rattle.flake_run.specs.declared.finding.Finding.TheVariants.{Judged, BadFrame, Missing, Memory}
use Rattle.flake_run.specs.declared.outcome.Opened.{Opened}

-- the count of failed reads of the file that a fault is of rose from 0, and no other
abbrev pub HasFaultsBy : Finding → Opened SourceTold → Type 0
HasFaultsBy (ReadFault file) one =
    (one.file ≡ file → Rose 0 one.source.faults) × (one.file ≢ file → one.source.faults ≡ 0)
HasFaultsBy Memory one = ⊤
HasFaultsBy finding one = one.source.faults ≡ 0

-- the files in front of this one were read to their ends, and those behind it were not read
abbrev pub WasReadTo : ℕ → Opened SourceTold → Type 0
WasReadTo file one = (one.file < file → one.source.ended ≡ true)
    × (file < one.file → (one.source.given ≡ []) × (one.source.ended ≡ false))

-- How far a source was read. Where memory was wanting it is free.
abbrev pub WasReadBy : Finding → Opened SourceTold → Type 0
WasReadBy (ReadFault file) one = WasReadTo file one
WasReadBy (TooLarge file) one = WasReadTo file one
WasReadBy Memory one = ⊤
WasReadBy finding one = one.source.ended ≡ true

-- a file of this number was opened
abbrev pub WasOpened : ℕ → List (Opened SourceTold) → Type 0
WasOpened file sources = (at : ℕ) × (one : Opened SourceTold) × (slice_get sources at ≡ Some one) × (one.file ≡ file)

-- what files come to that gave these texts
abbrev pub ComesTo : Finding → List (List ℕ) → List (Opened SourceTold) → Type 0
ComesTo BadWords texts sources = ⊥
ComesTo (OpenFault file) texts sources = ⊥
ComesTo (ReadFault file) texts sources = WhyStopped texts (errors.ReadFault file) × WasOpened file sources
ComesTo (TooLarge file) texts sources = WhyStopped texts (errors.TooLarge file)
ComesTo (BadLine line) texts sources = WhyStopped texts (errors.BadLine line)
ComesTo (Judged verdict) texts sources = IsJudged texts verdict
ComesTo (BadFrame number) texts sources = ⊥
ComesTo (Missing call frame) texts sources = ⊥
ComesTo Memory texts sources = ⊤

-- all files were opened, and what they gave comes to the finding
pub record WasRead (finding : Finding) (words : List Named) (old new : HostTold) (sources : List (Opened SourceTold)) :
    Type 0 where
  pub opened : AllOpened (named_places 0 words) (names_in words) old new sources
  pub reads : AllByRecursion (HasFaultsBy finding) sources
  pub gave : AllByRecursion (WasReadBy finding) sources
  pub comes_to : ComesTo finding (givens_of (at_places words (sources_of sources))) sources

-- the files in front of the one that did not open were, and were not read
pub record OneUnopened (file : ℕ) (words : List Named) (old new : HostTold) (sources : List (Opened SourceTold)) :
    Type 0 where
  pub between : HostTold
  pub opened : AllOpened (named_places 0 (take file words)) (names_in (take file words)) old between sources
  pub unread : AllByRecursion IsUntouched (sources_of sources)
  pub name : List ℕ
  pub name_is : slice_get words file ≡ Some (Some name)
  pub after : HostTold
  pub fails : NotOpened name between after
  pub leaves : LeavesFiles after new

-- no file was opened
pub record NoneOpened (old new : HostTold) (sources : List (Opened SourceTold)) : Type 0 where
  pub sources_are : sources ≡ []
  pub files : LeavesFiles old new

-- why a check comes to this
abbrev pub WasFound : Finding → Option (List Named) → HostTold → HostTold → List (Opened SourceTold) → Type 0
WasFound BadWords task old new sources = IsNone task × NoneOpened old new sources
WasFound (OpenFault file) task old new sources = IsSomeAnd task (λ words. OneUnopened file words old new sources)
WasFound (ReadFault file) task old new sources =
    IsSomeAnd task (λ words. WasRead (ReadFault file) words old new sources)
WasFound (TooLarge file) task old new sources = IsSomeAnd task (λ words. WasRead (TooLarge file) words old new sources)
WasFound (BadLine line) task old new sources = IsSomeAnd task (λ words. WasRead (BadLine line) words old new sources)
WasFound (Judged verdict) task old new sources =
    IsSomeAnd task (λ words. WasRead (Judged verdict) words old new sources)
WasFound (BadFrame number) task old new sources = ⊥
WasFound (Missing call frame) task old new sources = ⊥
WasFound Memory task old new sources =
    NoneOpened old new sources ⊎ IsSomeAnd task (λ words. WasRead Memory words old new sources)
    ⊎ ((file : ℕ) × IsSomeAnd task (λ words. OneUnopened file words old new sources))

-- The status is the finding's. A say that fails changes it only where the replies are the same.
abbrev pub IsStatus : Finding → HostTold → HostTold → ℕ → Type 0
IsStatus (Judged Same) old new status =
    ((status ≡ 0) × (new.say_faults ≡ old.say_faults)) ⊎ ((status ≡ 5) × Rose old.say_faults new.say_faults)
IsStatus finding old new status = status ≡ finding_status finding

-- it is said what was found, nothing is served, and the wires are as handed in
pub record IsConcluded {W : Type 0} (finding : Finding) (before after : Outside W) (done : RunOutcome) : Type 0 where
  pub status : IsStatus finding before.host after.host done.status
  pub detail : done.detail ≡ finding_detail finding
  pub said : PrintsStatus (finding_text finding) before.host after.host
  pub ends : done.ends ≡ []
  pub journal : done.journal ≡ []
  pub held : done.held ≡ none_held
  pub pool : done.pool ≡ None
  pub wires : after.wires ≡ before.wires

-- the same, or that memory was wanting to say it
abbrev pub ConcludesBy : {W : Type 0} → Finding → Outside W → Outside W → RunOutcome → Type 0
ConcludesBy finding before after done =
    IsConcluded finding before after done ⊎ IsConcluded Memory before after done

-- by what the files gave, none need have more bytes than it may, and the first may have the lines of a journal
pub record MayCheck (files : List SourceTold) : Type 0 where
  pub within : (place : ℕ) (source : SourceTold) → slice_get files place ≡ Some source
      → (bytes : List ℕ) × MayHold bytes source × (length bytes ≤ file_limit place)
  pub first : SourceTold
  pub first_is : slice_get files 0 ≡ Some first
  pub text : List ℕ
  pub held : MayHold text first
  pub journal : List (List Entry)
  pub lines : AreJournalLines (lines_of text) journal

-- the host tells all files, none has more bytes than it may, and the first has the lines of a journal
pub record AreCheckable (words : List Named) (host : HostTold) : Type 0 where
  pub told : AllByRecursion (λ held. IsSome held) (map (held_by host) words)
  pub within : (place : ℕ) (bytes : List ℕ) → slice_get (map (held_by host) words) place ≡ Some (Some bytes)
      → length bytes ≤ file_limit place
  pub text : List ℕ
  pub text_is : slice_get (map (held_by host) words) 0 ≡ Some (Some text)
  pub journal : List (List Entry)
  pub lines : AreJournalLines (lines_of text) journal

-- memory was not wanting, and no count of failed calls rose
pub record NoneRose (words : List Named) (old new : HostTold) (done : RunOutcome) : Type 0 where
  pub memory : done.status ≢ 6
  pub opens : AllByRecursion (λ name. Rose (old.open_faults name) (new.open_faults name) → ⊥) (names_in words)
  pub reads : AllByRecursion (λ count. count ≡ 0) (read_faults_of (sources_of done.sources))
  pub says : Rose old.say_faults new.say_faults → ⊥

pub record Checked {W : Type 0} (task : Option (List Named)) (before after : Outside W) (done : RunOutcome) : Type 0
  where
    pub finding : Finding
    pub concluded : IsConcluded finding before after done
    pub found : WasFound finding task before.host after.host done.sources
    -- where the words are accepted and nothing failed, files as a check wants them get their verdict
    pub complete : IfSome task (λ words. NoneRose words before.host after.host done
        → MayCheck (at_places words (sources_of done.sources)) → (done.status ≡ 0) ⊎ (done.status ≡ 8))
    -- and so do those that the host tells to be that, where no name stands twice
    pub told : IfSome task (λ words. NoneRose words before.host after.host done → AreDistinct (names_in words)
        → AreCheckable words before.host → (done.status ≡ 0) ⊎ (done.status ≡ 8))
