-- Results in the slots of their jobs.
use Rattle.std.specs.Prelude.{
  ◌≡◌,
  ℕ,
  ◌<◌,
  List,
  [],
  ◌∷◌,
  Option,
  Some,
  None,
  IsSomeAnd,
  length,
  slice_index_or,
  slice_set,
}
use Rattle.std.specs.List.{AllZip}
use Rattle.work_queue.specs.Dealt.{times_listed, IsAt}
use Rattle.work_queue.specs.declared.hand.Done.{Done}

-- the slots once each result stands in the one of its number
abbrev pub filled_slots : {X : Type 0} → List (Option X) → List (Done X) → List (Option X)
filled_slots slots [] = slots
filled_slots slots (d ∷ ds) = filled_slots (slice_set slots d.number (Some d.result)) ds

module _ {T X : Type 0} (gives : T → X → Type 0) where
  -- the slot of a place has what the job there may give
  abbrev pub IsFilled : List T → ℕ → Option X → Type 0
  IsFilled all j slot = IsSomeAnd slot (λ r. (x : T) × IsAt all j x × gives x r)

  -- a slot for each job, full where its number stands among these
  pub record Filled (all : List T) (numbers : List ℕ) (slots : List (Option X)) : Type 0 where
    pub len : length slots ≡ length all
    pub each : (j : ℕ) → j < length all → 0 < times_listed j numbers → IsFilled all j (slice_index_or slots j None)

  -- a full slot for each job
  abbrev pub AllFilled : List T → List (Option X) → Type 0
  AllFilled all slots = AllZip (λ job slot. IsSomeAnd slot (gives job)) all slots
