-- What a run of `join` does.
use Rattle.std.specs.Prelude.{◌≡◌, ◌≢◌, ◌⊎◌, ◌≤◌, ◌<◌, ℕ, Bool, false, if◌then◌else◌, List, [], ◌∷◌, Option, Some, None}
use Rattle.std.specs.Prelude.{length, drop, All, IfSome, IsSomeAnd, ⊤}
use Rattle.std.specs.List.{concat}
use Rattle.flake_base.specs.Causes.{Rose}
use Rattle.flake_base.specs.Told.{HostTold, WireTold}
use Rattle.flake_model.specs.Wire.{FaultsAre, KeptAre, KeptIs, WiresGrew}
use Rattle.mtu_frames.specs.Joining.{Joining, replies}
use Rattle.any_wire.specs.Sent.{WasSent}
use Rattle.join_files.specs.Source.{IsJoinerOf, IsUnjoined, join_limit}
use Rattle.join_files.specs.Texts.{AreFramesOf}
use Rattle.join_files.specs.declared.error.JoinError.{JoinError}
use Rattle.join_files.specs.declared.error.JoinError.TheVariants as errors
use Rattle.command_line.specs.Join.{Join}
use Rattle.flake_run.specs.Causes.{SomeWireFailed}
use Rattle.flake_run.specs.Checked.{ConcludesBy, IsConcluded, NoneOpened}
use Rattle.flake_run.specs.Opening.{AllOpened, IsUnopened}
use Rattle.flake_run.specs.Outcome.{RunOutcome, SourceTold, GaveFront, MayHold, none_held, sources_of, read_faults_of}
use Rattle.flake_run.specs.Outside.{Outside, LeavesFiles, put_on, kept_by, wire_faults}
use Rattle.flake_run.specs.Said.{SaysNothing}
use Rattle.flake_run.specs.declared.finding.Finding.{Finding}
use Rattle.flake_run.specs.declared.finding.Finding.TheVariants.{BadWords, OpenFault, ReadFault, TooLarge, BadLine}
use Rattle.flake_run.specs.declared.finding.Finding.TheVariants.{Judged, BadFrame, Missing, Memory}
use Rattle.flake_run.specs.declared.outcome.Detail.TheVariants.{Nothing}
use Rattle.flake_run.specs.declared.outcome.Opened.{Opened}

-- what it is that replies are not put together; the file has number 0
abbrev pub finding_of : JoinError → Finding
finding_of errors.ReadFault = ReadFault 0
finding_of errors.TooLarge = TooLarge 0
finding_of (errors.BadFrame number) = BadFrame number
finding_of (errors.Missing call frame) = Missing call frame
finding_of errors.Memory = Memory

-- the words are a task, and there is a wire
abbrev pub IsJoinable : {W : Type 0} → Option Join → Outside W → (Join → Type 0) → Type 0
IsJoinable task before Holds = IsSomeAnd task (λ job. (0 < length before.wires) × Holds job)

-- there is no task, or no wire
abbrev pub IsUnjoinable : {W : Type 0} → Option Join → Outside W → Type 0
IsUnjoinable None before = ⊤
IsUnjoinable (Some job) before = length before.wires ≡ 0

-- the file of this name was opened, which has number 0, and no other; this is its source
pub record IsSourceOf (name : List ℕ) (old new : HostTold) (sources : List (Opened SourceTold)) (source : SourceTold) :
    Type 0 where
  pub opened : AllOpened (0 ∷ []) (name ∷ []) old new sources
  pub source_is : sources_of sources ≡ source ∷ []

-- the open of the file of this name failed, and no other was opened
pub record FileFailsToOpen (name : List ℕ) (old new : HostTold) (sources : List (Opened SourceTold)) : Type 0 where
  pub sources_are : sources ≡ []
  pub between : HostTold
  pub fails : IsUnopened name old between
  pub leaves : LeavesFiles between new

-- a text was sent to the first wire, which then was flushed; the others are as they were
pub record IsPutOnFirst {W : Type 0} (failed : Bool) (text : List ℕ) (olds news : List W) (tells : W → WireTold) :
    Type 0 where
  pub old : W
  pub new : W
  pub rest : List W
  pub olds_are : olds ≡ old ∷ rest
  pub news_are : news ≡ new ∷ rest
  pub sent : WasSent failed text (tells old) (tells new)
  pub flushed : KeptIs failed (tells old).kept (tells new).kept

-- The source was read to its end, and no frame that it gave was refused or is missing.
pub record PutsReplies {W : Type 0} (job : Join) (source : SourceTold) (before after : Outside W) (done : RunOutcome) :
    Type 0 where
  pub calm : source.faults ≡ 0
  pub joining : Joining
  pub read : IsJoinerOf job.mtu job.calls source.given source.ended joining
  -- the status is 5 where a put or a flush of the first wire failed, and else 0
  pub failed : Bool
  pub status : done.status ≡ (if failed then 5 else 0)
  -- the first wire got the replies in call order, or a front of them where it failed
  pub wires : WiresGrew ((failed, replies joining.frames job.calls) ∷ []) (put_on before) (put_on after)
  -- then its count of faults rose, and else it is as it was
  pub faults : FaultsAre (failed ∷ []) (wire_faults before) (wire_faults after)
  -- where it didn't fail it keeps none of them back
  pub flushed : KeptAre (failed ∷ []) (kept_by before) (kept_by after)
  -- the other wires are as handed in
  pub others : drop 1 after.wires ≡ drop 1 before.wires
  pub said : SaysNothing before.host after.host
  pub detail : done.detail ≡ Nothing
  -- nothing is served
  pub ends : done.ends ≡ []
  pub journal : done.journal ≡ []
  pub held : done.held ≡ none_held
  pub pool : done.pool ≡ None

-- The replies were not put together. That was said, unless memory was wanting for it.
pub record PutsNone {W : Type 0} (job : Join) (source : SourceTold) (before after : Outside W) (done : RunOutcome) :
    Type 0 where
  pub error : JoinError
  pub why : IsUnjoined error job.mtu job.calls source.given source.ended 0 source.faults
  pub concluded : ConcludesBy (finding_of error) before after done

-- What came of a source that was opened under this name, and holds this.
pub record CameOfFrames {W : Type 0} (job : Join) (name : List ℕ) (whole : Option (List ℕ)) (before after : Outside W)
    (done : RunOutcome) : Type 0 where
  pub source : SourceTold
  pub sources_are : done.sources ≡ record { file = 0; source = source } ∷ []
  pub name_is : source.name ≡ name
  pub whole_is : source.whole ≡ whole
  pub front : GaveFront source
  pub leaves : LeavesFiles before.host after.host
  pub came : PutsReplies job source before after done ⊎ PutsNone job source before after done

-- The file was opened, and the replies whose frames it has were put on the first wire.
pub record JoinedFile {W : Type 0} (job : Join) (before after : Outside W) (done : RunOutcome) : Type 0 where
  pub source : SourceTold
  pub of_file : IsSourceOf job.file before.host after.host done.sources source
  pub put : PutsReplies job source before after done

-- The file was opened, and this is why the replies are not put together.
pub record FileUnjoined (error : JoinError) (job : Join) (old new : HostTold) (sources : List (Opened SourceTold)) :
    Type 0 where
  pub source : SourceTold
  pub of_file : IsSourceOf job.file old new sources source
  pub why : IsUnjoined error job.mtu job.calls source.given source.ended 0 source.faults

-- why no reply was put; where memory was wanting it is free how far the file was read
abbrev pub WhyNonePut : {W : Type 0} → Finding → Option Join → Outside W → HostTold → List (Opened SourceTold) → Type 0
WhyNonePut BadWords task before new sources = IsUnjoinable task before × NoneOpened before.host new sources
WhyNonePut (OpenFault file) task before new sources =
    (file ≡ 0) × IsJoinable task before (λ job. FileFailsToOpen job.file before.host new sources)
WhyNonePut (ReadFault file) task before new sources =
    (file ≡ 0) × IsJoinable task before (λ job. FileUnjoined errors.ReadFault job before.host new sources)
WhyNonePut (TooLarge file) task before new sources =
    (file ≡ 0) × IsJoinable task before (λ job. FileUnjoined errors.TooLarge job before.host new sources)
WhyNonePut (BadLine line) task before new sources = ⊥
WhyNonePut (Judged verdict) task before new sources = ⊥
WhyNonePut (BadFrame number) task before new sources =
    IsJoinable task before (λ job. FileUnjoined (errors.BadFrame number) job before.host new sources)
WhyNonePut (Missing call frame) task before new sources =
    IsJoinable task before (λ job. FileUnjoined (errors.Missing call frame) job before.host new sources)
WhyNonePut Memory task before new sources =
    NoneOpened before.host new sources
    ⊎ IsJoinable task before (λ job. FileFailsToOpen job.file before.host new sources)
    ⊎ ((error : JoinError) × IsJoinable task before (λ job. FileUnjoined error job before.host new sources))

-- No reply was put. It is said why and answered; the wires are as handed in, and nothing is served.
pub record NonePut {W : Type 0} (task : Option Join) (before after : Outside W) (done : RunOutcome) : Type 0 where
  pub finding : Finding
  pub concluded : IsConcluded finding before after done
  pub why : WhyNonePut finding task before after.host done.sources

-- memory was not wanting, and no count of failed calls rose
pub record NoCallFails {W : Type 0} (job : Join) (before after : Outside W) (done : RunOutcome) : Type 0 where
  pub memory : done.status ≢ 6
  pub opens : Rose (before.host.open_faults job.file) (after.host.open_faults job.file) → ⊥
  pub reads : All (λ count. count ≡ 0) (read_faults_of (sources_of done.sources))
  pub puts : SomeWireFailed 1 before after → ⊥

-- all frames of texts, one for each call, in no more bytes than the file may have
pub record AreFramesFor (job : Join) (texts : List (List ℕ)) (bytes : List ℕ) : Type 0 where
  pub calls : length texts ≡ job.calls
  pub within : length bytes ≤ join_limit
  pub frames : AreFramesOf job.mtu texts bytes

-- by what the source gave, it may hold such
pub record MayJoin (job : Join) (texts : List (List ℕ)) (sources : List SourceTold) : Type 0 where
  pub source : SourceTold
  pub sources_are : sources ≡ source ∷ []
  pub bytes : List ℕ
  pub held : MayHold bytes source
  pub frames : AreFramesFor job texts bytes

-- all was put: the first wire got the texts
pub record PutsTexts {W : Type 0} (texts : List (List ℕ)) (before after : Outside W) (done : RunOutcome) : Type 0 where
  pub status : done.status ≡ 0
  pub wires : WiresGrew ((false, concat texts) ∷ []) (put_on before) (put_on after)

-- the statuses that there are
abbrev pub IsJoinStatus : ℕ → Type 0
IsJoinStatus status = (status ≡ 0) ⊎ (status ≡ 1) ⊎ (status ≡ 2) ⊎ (status ≡ 4) ⊎ (status ≡ 5) ⊎ (status ≡ 6)
    ⊎ (status ≡ 7) ⊎ (status ≡ 8) ⊎ (status ≡ 9)

pub record Joined {W : Type 0} (task : Option Join) (before after : Outside W) (done : RunOutcome) : Type 0 where
  pub statuses : IsJoinStatus done.status
  -- with 0 and 5 the words were accepted, and replies were put
  pub joined : (done.status ≡ 0) ⊎ (done.status ≡ 5)
      → IsJoinable task before (λ job. JoinedFile job before after done)
  -- with each other status none was, and this is why
  pub refused : done.status ≢ 0 → done.status ≢ 5 → NonePut task before after done
  -- bad words and no wire are answered by 1 and by nothing else, but that memory was wanting
  pub bad_words : done.status ≢ 6 → IsUnjoinable task before → done.status ≡ 1
  -- where the words are accepted and nothing failed, all frames of some texts give these
  pub whole : IfSome task (λ job. 0 < length before.wires → NoCallFails job before after done
      → (texts : List (List ℕ)) → MayJoin job texts (sources_of done.sources) → PutsTexts texts before after done)
  -- and so do those that the host tells that it holds under the name
  pub told : IfSome task (λ job. 0 < length before.wires → NoCallFails job before after done
      → (texts : List (List ℕ)) → IsSomeAnd (before.host.holds job.file) (AreFramesFor job texts)
      → PutsTexts texts before after done)
