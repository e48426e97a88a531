-- A whole transcript of a schedule and a run.
use Rattle.std.specs.Prelude.{◌≡◌, ◌≢◌, ℕ, ◌<◌, ◌≤◌, ◌==◌, Bool, if◌then◌else◌, List, [], ◌∷◌, length, map}
use Rattle.std.specs.Prelude.{slice_get, slice_index, unwrap_or, Option, Some, None}
use Rattle.std.specs.List.{AllByRecursion, flat_map}
use Rattle.std.specs.FinMap as map
use Rattle.view_sums.specs.Total.{Each}
use Rattle.flake_base.specs.declared.journal.Entry.{Entry}
use Rattle.flake_base.specs.declared.segment.Seg.{Seg}
use Rattle.flake_base.specs.declared.session.SessionEnd.{SessionEnd}
use Rattle.flake_base.specs.Growth.{Grew}
use Rattle.flake_base.specs.Told.{WireTold}
use Rattle.flake_model.specs.Command.{Command}
use Rattle.flake_model.specs.Journal.{Step, step_of, commands_of}
use Rattle.flake_model.specs.Deed.{Deed, Places, places_at, IsLegal}
use Rattle.flake_model.specs.Replay.{replay, places_from}
use Rattle.pin_core.specs.declared.sizes.Sizes.{Sizes}
use Rattle.reply_planner.specs.Places.{buffer_addresses}
use Rattle.reply_planner.specs.Stages.{stage_size, IsRising, StagesAreApart}
use Rattle.schedule_text.specs.declared.line.Line.{Line}
use Rattle.transcript_model.specs.Lines.{LineEvent, posted, EventLine, line_of, transcript_text}
use Rattle.transcript_model.specs.Terms.{Terms}
use Rattle.any_wire.specs.Texts.{Sending, WireGrew}
use Rattle.transcript_model.specs.Sessions.{events_of, texts_of, IsRightSession}
use Rattle.any_wire.specs.Sent.{WasSentByPuts}

-- the words of the run, what its inputs ask for, and what it answered
pub record DrivenRun : Type 0 where
  pub sizes : Sizes
  pub ring : ℕ
  pub threshold : ℕ
  pub sessions : List (List Command)
  pub ends : List SessionEnd
  pub journal : List (List Entry)
  pub small_held : ℕ
  pub large_held : ℕ

-- the addresses that an event shows as stored, where it is the post of this call
abbrev pub shown_in : ℕ → LineEvent → Option (List ℕ)
shown_in call (posted number freed segments fragments) =
    if number == call then Some (map (λ (fragment : Seg). fragment.address) fragments) else None
shown_in call event = None

-- the addresses that the transcript shows as stored at an entry: those on the line of its call
abbrev pub shown_by : List EventLine → Entry → List ℕ
shown_by [] entry = []
shown_by (said ∷ lines) entry =
    unwrap_or (if said.session == entry.session then shown_in entry.call said.event else None) (shown_by lines entry)

abbrev pub steps_in : DrivenRun → List (List Step)
steps_in run = map (λ history. flat_map (step_of run.sessions) history) run.journal

-- the deeds of each shard's history, which store where the transcript shows it
abbrev pub deeds_in : DrivenRun → List EventLine → List (List Deed)
deeds_in run lines = map (λ steps. replay (shown_by lines) steps) (steps_in run)

-- where the final values of each shard lie
abbrev pub transcript_places : DrivenRun → List EventLine → List Places
transcript_places run lines = map (λ steps. places_from (shown_by lines) map.empty map.empty steps) (steps_in run)

-- no address is that of two fragments, of whatever keys and shards
abbrev pub AreAllApart : List Places → Type 0
AreAllApart finals = (shard shard' : ℕ) (places places' : Places)
    → slice_get finals shard ≡ Some places → slice_get finals shard' ≡ Some places'
    → (key key' : List ℕ) (number number' address : ℕ) → slice_get (places_at places key) number ≡ Some address
    → slice_get (places_at places' key') number' ≡ Some address
    → (shard ≡ shard') × (key ≡ key') × (number ≡ number')

-- the addresses of 128 small buffers, in ascending order
pub record IsStageShown (sizes : Sizes) (stage : List ℕ) : Type 0 where
  pub buffers : List ℕ
  pub as_many : length buffers ≡ stage_size
  pub ascending : IsRising buffers
  pub small : Each (λ buffer. buffer < sizes.small) buffers
  pub addresses : stage ≡ buffer_addresses sizes buffers

abbrev pub terms_of : DrivenRun → List Deed → ℕ → SessionEnd → List ℕ → ℕ → Terms
terms_of run deeds session end stage whole = record {
  number = session;
  sizes = run.sizes;
  ring = run.ring;
  threshold = run.threshold;
  stage = stage;
  commands = commands_of run.sessions session;
  end = end;
  whole = whole;
  deeds = deeds;
}

-- what was said of each session is right, by these deeds of it
abbrev pub SessionsAreRight : DrivenRun → (ℕ → List Deed) → List (List ℕ) → List ℕ → List EventLine → Type 0
SessionsAreRight run deeds stages wholes lines = (session : ℕ) (end : SessionEnd) (stage : List ℕ)
    → slice_get run.ends session ≡ Some end → slice_get stages session ≡ Some stage
    → IsRightSession (terms_of run (deeds session) session end stage (slice_index wholes session))
    (events_of session lines)

-- and its wire was sent the texts of its frames, so many of them whole
abbrev pub AreSent : {W : Type 0} → Sending W → DrivenRun → (ℕ → List Deed) → List ℕ → List W → List W → Type 0
AreSent {W} sends run deeds wholes olds news = (session : ℕ) (end : SessionEnd) (old new : W)
    → slice_get run.ends session ≡ Some end → slice_get olds session ≡ Some old → slice_get news session ≡ Some new
    → WireGrew sends end.failed (slice_index wholes session)
    (texts_of (terms_of run (deeds session) session end [] (slice_index wholes session))) old new

-- these lines answer the schedule, and each session's are right by the deeds that are given for it
pub record IsToldBy {W : Type 0} (sends : Sending W) (run : DrivenRun) (olds news : List W) (deeds : ℕ → List Deed)
    (schedule : List Line) (lines : List EventLine) : Type 0 where
  -- each line of the schedule has its line
  pub answers : map line_of lines ≡ schedule
  -- of all addresses only the stages are chosen; all others stand in the lines
  pub stages : List (List ℕ)
  pub stages_are : AllByRecursion (IsStageShown run.sizes) stages
  pub one_each : length stages ≡ length run.ends
  -- no address is in the stages of two sessions
  pub stages_apart : StagesAreApart stages
  -- how many frames of each session were sent whole
  pub wholes : List ℕ
  pub told : SessionsAreRight run deeds stages wholes lines
  -- a wire for each session, and perhaps more
  pub wires : (length run.ends ≤ length olds) × (length news ≡ length olds)
  pub sent : AreSent sends run deeds wholes olds news

-- what is known of each wire: the bytes that were put on it, and how often a put of them failed, or a flush
abbrev pub Wires : Type 0
Wires = List WireTold

-- by the journal: its histories, storing where the lines show it, are legal, and at the end no two fragments lie in one
-- buffer
pub record IsTranscript (run : DrivenRun) (olds news : Wires) (schedule : List Line) (lines : List EventLine) : Type 0
  where
    pub told_by : IsToldBy WasSentByPuts run olds news (λ session. flat_map (λ deeds. deeds) (deeds_in run lines))
        schedule lines
    pub legal : AllByRecursion IsLegal (deeds_in run lines)
    pub apart : AreAllApart (transcript_places run lines)

-- Where the count of failed puts of a session's wire isn't as before, not all of its replies were sent: one at least is
-- said to be dropped.
abbrev pub CutReplyIsDropped : Type 0
CutReplyIsDropped = (run : DrivenRun) (olds news : Wires) (schedule : List Line) (lines : List EventLine)
    (transcript : IsTranscript run olds news schedule lines) (session : ℕ) (end : SessionEnd) (old new : WireTold)
    → slice_get run.ends session ≡ Some end → slice_get olds session ≡ Some old → slice_get news session ≡ Some new
    → new.put_faults ≢ old.put_faults → slice_index transcript.told_by.wholes session < end.replies

-- what was said is a whole transcript with the held buffers behind it, or a front of one where a `say` failed
abbrev pub IsSaid : DrivenRun → Wires → Wires → List Line → Bool → List ℕ → List ℕ → Type 0
IsSaid run olds news schedule failed old new = (lines : List EventLine) × IsTranscript run olds news schedule lines
    × Grew failed (transcript_text lines run.small_held run.large_held) old new
