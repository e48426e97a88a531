-- How a session goes on, call by call, and how it ends.
use Rattle.std.specs.Prelude.{◌≡◌, ℕ, ◌+◌, List, [], ◌∷◌, ◌++◌, Bool, length}
use Rattle.flake_base.specs.declared.session.End.TheVariants as how
use Rattle.flake_base.specs.declared.session.SessionEnd.{SessionEnd}
use Rattle.pin_core.specs.declared.class.Class.{Class}
use Rattle.pin_core.specs.declared.sizes.Sizes.{Sizes}
use Rattle.pinned_pool.specs.Sought.{Sought}
use Rattle.pinned_pool.specs.Views.{nobody}
use Rattle.pinned_pool.specs.declared.view.View.{View}
use Rattle.flake_model.specs.Command.{Command, parts}
use Rattle.flake_model.specs.Deed.{Deed}
use Rattle.flake_model.specs.Session.{IsSession}
use Rattle.shard_core.specs.Calls.{IsExecuted, IsCutShort}
use Rattle.shard_core.specs.Outcomes.{Outcomes, SessionDeeds, AreOutcomes, call_told}
use Rattle.serve_model.specs.Demand.{stage_row, commands_row, session_row}
use Rattle.serve_model.specs.Going.{IsGoing, CallsNoMore, IsFinished}
use Rattle.serve_model.specs.Handed.{SessionHasRun}
use Rattle.serve_model.specs.Misses.{SoughtByRun}
use Rattle.serve_model.specs.Runs.{Run, AreCalls, calls_told, replies_told, parts_told, session_of}
use Rattle.serve_model.specs.Runs.{calls_pins}

-- what is said of the first calls of a session, and of one call more
pub record HasCallMore (shards session : ℕ) (given : List Command) (calls : List Outcomes) (command : Command)
    (outcomes : Outcomes) : Type 0 where
  pub told : calls_told shards session 0 (given ++ command ∷ []) (calls ++ outcomes ∷ [])
      ≡ calls_told shards session 0 given calls
      ++ call_told shards session (length given) 0 (parts command) outcomes
  pub are : AreCalls given calls → AreOutcomes (parts command) outcomes
      → length outcomes ≡ length (parts command) → AreCalls (given ++ command ∷ []) (calls ++ outcomes ∷ [])

abbrev pub CallsAdd : Type 0
CallsAdd = (shards session : ℕ) (given : List Command) (calls : List Outcomes) (command : Command)
    (outcomes : Outcomes) → length calls ≡ length given → HasCallMore shards session given calls command outcomes

-- what was said of the first calls stands when more commands are known
pub record StaysSaid (shards session : ℕ) (given rest : List Command) (calls : List Outcomes) : Type 0 where
  pub told : calls_told shards session 0 (given ++ rest) calls ≡ calls_told shards session 0 given calls
  pub are : AreCalls given calls → AreCalls (given ++ rest) calls
  pub replies : replies_told (given ++ rest) calls ≡ replies_told given calls
  pub parts : parts_told (given ++ rest) calls ≡ parts_told given calls
  pub pins : (threshold : ℕ) → calls_pins threshold (given ++ rest) calls ≡ calls_pins threshold given calls

abbrev pub FirstCalls : Type 0
FirstCalls = (shards session : ℕ) (given rest : List Command) (calls : List Outcomes)
    → length calls ≡ length given → StaysSaid shards session given rest calls

-- before the first call
abbrev pub GoingStarts : Type 0
GoingStarts = (z : Sizes) (threshold shards session : ℕ) (opened : View)
    → IsGoing z threshold shards session [] [] [] 0 [] opened opened

-- frames that come back change neither claims nor looks
abbrev pub GoingRests : Type 0
GoingRests = (z : Sizes) (threshold shards session : ℕ) (given : List Command) (calls : List Outcomes)
    (texts : List (List ℕ)) (pins : ℕ) (told : SessionDeeds) (opened seat after : View)
    → after.claims ≡ seat.claims → after.looks ≡ seat.looks
    → IsGoing z threshold shards session given calls texts pins told opened seat
    → IsGoing z threshold shards session given calls texts pins told opened after

-- one call more
abbrev pub GoingOn : Type 0
GoingOn = (z : Sizes) (threshold shards session : ℕ) (given : List Command) (calls : List Outcomes)
    (texts : List (List ℕ)) (text : List ℕ) (pins more : ℕ) (command : Command) (outcomes : Outcomes)
    (old new : SessionDeeds) (opened seat after : View)
    → IsGoing z threshold shards session given calls texts pins old opened seat
    → IsExecuted z threshold shards session (length given) command outcomes text more old new seat after
    → IsGoing z threshold shards session (given ++ command ∷ []) (calls ++ outcomes ∷ []) (texts ++ text ∷ [])
    (pins + more) new opened after

-- a session that stops between two calls, or behind its last
abbrev pub GoingEnds : Type 0
GoingEnds = (z : Sizes) (threshold shards session : ℕ) (given rest : List Command) (calls : List Outcomes)
    (texts : List (List ℕ)) (pins : ℕ) (told : SessionDeeds) (opened seat : View) (looks : List (ℕ × List Deed))
    (end : SessionEnd) → IsGoing z threshold shards session given calls texts pins told opened seat
    → end.replies ≡ length given
    → CallsNoMore z threshold shards session
    (record { commands = given ++ rest; calls = calls; behind = []; looks = looks; end = end })
    texts pins told opened seat

-- a session in one of whose calls memory was wanting
abbrev pub GoingBreaks : Type 0
GoingBreaks = (z : Sizes) (threshold shards session : ℕ) (given rest : List Command) (calls : List Outcomes)
    (texts : List (List ℕ)) (pins : ℕ) (command : Command) (outcomes : Outcomes) (old new : SessionDeeds)
    (opened seat after : View) (looks : List (ℕ × List Deed)) (end : SessionEnd)
    → IsGoing z threshold shards session given calls texts pins old opened seat
    → IsCutShort z shards session (length given) command outcomes old new seat after
    → end.replies ≡ length given → end.end ≡ how.Memory
    → CallsNoMore z threshold shards session
    (record { commands = given ++ command ∷ rest; calls = calls; behind = outcomes; looks = looks; end = end })
    texts pins new opened after

-- what a session claimed, with its stage
abbrev pub WithStage : Type 0
WithStage = (z : Sizes) (run : Run) (opened seat : View) → Sought z stage_row 0 nobody opened
    → SoughtByRun z (λ (class : Class). commands_row class run.commands) run opened seat
    → SoughtByRun z (λ (class : Class). session_row class run.commands) run nobody seat

-- So the session ran on what its source gave, and its texts are those of its frames.
abbrev pub SessionRan : Type 0
SessionRan = (z : Sizes) (threshold shards session : ℕ) (given : List ℕ) (ended : Bool) (run : Run)
    (texts : List (List ℕ)) (pins : ℕ) (told : SessionDeeds) (opened seat last : View)
    → Sought z stage_row 0 nobody opened
    → CallsNoMore z threshold shards session run texts pins told opened seat → IsFinished pins seat last
    → IsSession (session_of given ended run)
    → SessionHasRun z threshold shards session given ended run.end
    (record { number = session; told = told; looks = run.looks }) last texts
