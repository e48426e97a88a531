-- How what is said of a call grows with its parts, one at a time.
use Rattle.std.specs.Prelude.{◌≡◌, ℕ, List, [], ◌∷◌, ◌++◌, Option, Some, length, map, slice_get}
use Rattle.std.specs.List.{flat_map}
use Rattle.std.specs.Option.{option_map, option_to_list}
use Rattle.flake_base.specs.declared.journal.Entry.{Entry}
use Rattle.pin_core.specs.declared.class.Class.{Class}
use Rattle.pin_core.specs.declared.sizes.Sizes.{Sizes}
use Rattle.pinned_pool.specs.Sought.{Sought}
use Rattle.pinned_pool.specs.declared.view.View.{View}
use Rattle.flake_model.specs.Store.{Operation}
use Rattle.flake_model.specs.Command.{Command, parts}
use Rattle.flake_model.specs.Deed.{Deed}
use Rattle.shard_core.specs.Demand.{part_row}
use Rattle.shard_core.specs.Outcomes.{PartOutcome, Outcomes, SessionDeeds, entry_at, deed_of, part_told, IsOutcome}
use Rattle.shard_core.specs.Outcomes.{AreOutcomes}
use Rattle.shard_core.specs.Outcomes.{call_told, call_deeds, answers_told}
use Rattle.shard_core.specs.Calls.{IsPartRun, AreRunning, IsCutShort}
use Rattle.shard_core.specs.Parts.{segs_told, call_segs}

-- the deed of one part, if it did one
abbrev pub deed_told : Entry → Operation → Option PartOutcome → Option Deed
deed_told entry operation outcome = option_map (deed_of entry operation) outcome

-- what is said of the first parts of a call, and of one part more
pub record HasOneMore (shards session call : ℕ) (operations : List Operation) (outcomes : Outcomes)
    (operation : Operation) (outcome : Option PartOutcome) : Type 0 where
  pub are : AreOutcomes operations outcomes → IsOutcome operation outcome
      → AreOutcomes operations (outcomes ++ outcome ∷ [])
  pub told : call_told shards session call 0 operations (outcomes ++ outcome ∷ [])
      ≡ call_told shards session call 0 operations outcomes
      ++ part_told shards (entry_at session call (length outcomes)) operation outcome
  pub deeds : call_deeds session call 0 operations (outcomes ++ outcome ∷ [])
      ≡ call_deeds session call 0 operations outcomes
      ++ deed_told (entry_at session call (length outcomes)) operation outcome ∷ []
  pub segs : call_segs operations (outcomes ++ outcome ∷ [])
      ≡ call_segs operations outcomes ++ segs_told operation outcome

abbrev pub PartsAdd : Type 0
PartsAdd = (shards session call : ℕ) (operations : List Operation) (outcomes : Outcomes) (operation : Operation)
    (outcome : Option PartOutcome) → slice_get operations (length outcomes) ≡ Some operation
    → HasOneMore shards session call operations outcomes operation outcome

-- the deeds of a call's parts: one place for each outcome, with its answer; those that were done are told
pub record AreDeedsOf (shards session call part : ℕ) (operations : List Operation) (outcomes : Outcomes)
    : Type 0 where
  pub as_many : length (call_deeds session call part operations outcomes) ≡ length outcomes
  pub answers : map (option_map (λ (deed : Deed). deed.answer)) (call_deeds session call part operations outcomes)
      ≡ answers_told outcomes
  pub told : map (λ (told : ℕ × Deed). told.1) (call_told shards session call part operations outcomes)
      ≡ flat_map option_to_list (call_deeds session call part operations outcomes)

abbrev pub DeedsAreTold : Type 0
DeedsAreTold = (shards session call part : ℕ) (operations : List Operation) (outcomes : Outcomes)
    → AreOutcomes operations outcomes → AreDeedsOf shards session call part operations outcomes

-- no part was run yet
abbrev pub RunningStarts : Type 0
RunningStarts = (z : Sizes) (shards session call : ℕ) (operations : List Operation) (told : SessionDeeds)
    (seat after : View)
    → after.claims ≡ seat.claims → after.looks ≡ seat.looks
    → AreRunning z shards session call operations [] told told seat after

-- one part more
abbrev pub PartStep : Type 0
PartStep = (z : Sizes) (shards session call : ℕ) (operations : List Operation) (outcomes : Outcomes)
    (operation : Operation) (outcome : Option PartOutcome) (old mid new : SessionDeeds) (seat later after : View)
    → slice_get operations (length outcomes) ≡ Some operation
    → AreRunning z shards session call operations outcomes old mid seat later
    → IsPartRun z shards (entry_at session call (length outcomes)) operation outcome mid new later after
    → AreRunning z shards session call operations (outcomes ++ outcome ∷ []) old new seat after

-- what changes neither claims nor looks, as a pin or a credit given back, may come between
abbrev pub RunningRests : Type 0
RunningRests = (z : Sizes) (shards session call : ℕ) (operations : List Operation) (outcomes : Outcomes)
    (old new : SessionDeeds) (seat later after : View) → after.claims ≡ later.claims → after.looks ≡ later.looks
    → AreRunning z shards session call operations outcomes old new seat later
    → AreRunning z shards session call operations outcomes old new seat after

-- memory was wanting before the first part
abbrev pub CutsBefore : Type 0
CutsBefore = (z : Sizes) (shards session call : ℕ) (command : Command) (told : SessionDeeds) (seat after : View)
    → after.claims ≡ seat.claims → after.looks ≡ seat.looks
    → IsCutShort z shards session call command [] told told seat after

-- memory was wanting in the part behind those that ran
abbrev pub CutsBehind : Type 0
CutsBehind = (z : Sizes) (shards session call : ℕ) (command : Command) (outcomes : Outcomes) (operation : Operation)
    (old new : SessionDeeds) (seat later after : View)
    → slice_get (parts command) (length outcomes) ≡ Some operation
    → AreRunning z shards session call (parts command) outcomes old new seat later
    → Sought z (λ (class : Class). part_row class operation) 0 later after
    → IsCutShort z shards session call command outcomes old new seat after

-- what was begun is undone with neither claims nor looks
abbrev pub CutsRest : Type 0
CutsRest = (z : Sizes) (shards session call : ℕ) (command : Command) (outcomes : Outcomes) (old new : SessionDeeds)
    (seat later after : View) → after.claims ≡ later.claims → after.looks ≡ later.looks
    → IsCutShort z shards session call command outcomes old new seat later
    → IsCutShort z shards session call command outcomes old new seat after
