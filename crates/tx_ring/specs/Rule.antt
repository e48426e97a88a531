-- The rule of a ring's table: what holds of its words, of the slots at home and of the views between any two steps.
-- Word 0 is the tail, word 1 the head and word 2 tells whether the driver closed. Two words for each place follow.
use Rattle.std.specs.Prelude.{◌≡◌, ◌≢◌, ℕ, suc, ◌+◌, ◌-◌, ◌*◌, ◌%◌, ◌<◌, ◌≤◌, List, [], ◌∷◌, ◌++◌, true, false, length}
use Rattle.std.specs.Prelude.{slice_index, slice_index_or, Option, None, ⊤}
use mathlib.Core.Option.{some}
use mathlib.Core.Option as maybe
use lib.ListN.{get_elem?}
use Rattle.flake_base.specs.declared.segment.Seg.{Seg}
use Rattle.tx_ring.specs.Words.{EachElement, IsFrame, size, extent, lay, stops}
use Rattle.tx_ring.specs.declared.view.View.{View}
use Rattle.tx_ring.specs.declared.view.DriverView.{DriverView}
use Rattle.tx_ring.specs.declared.view.DeviceView.{DeviceView}
use Rattle.tx_ring.specs.declared.view.DriverStage.{DriverStage}
use Rattle.tx_ring.specs.declared.view.DriverStage.TheVariants.{Idle, Putting, Reaping, Closed}
use Rattle.tx_ring.specs.declared.view.DeviceStage.{DeviceStage}
use Rattle.tx_ring.specs.declared.view.DeviceStage.TheVariants.{Resting, Fetching, Holding, Behind}

-- the items of `log` stand from the number `lo` on in `m` places, which go round behind the first `b` words
abbrev pub Round : List ℕ → ℕ → ℕ → ℕ → List ℕ → Type 0
Round words b m lo log = (j : ℕ) → j < length log → slice_index words (b + (lo + j) % m) ≡ slice_index log j

module _ {P : Type 0} where
  abbrev pub blank_driver : DriverView P
  blank_driver = record { posted = []; reaped = []; misses = []; told = 0; draft = []; stage = Idle }

  abbrev pub blank_device : DeviceView P
  blank_device = record { completed = []; blanks = []; ended = false; told = 0; stage = Resting }

  abbrev pub opener : View P
  opener = record { drives = true; gathers = true; driver = blank_driver; device = blank_device }

  abbrev pub nobody : View P
  nobody = record { drives = false; gathers = false; driver = blank_driver; device = blank_device }

module _ {P : Type 0} (segs : P → List Seg) where
  -- the driver has the slot of descriptor `at` out, of which `low` were reaped and `high` posted
  abbrev pub DriverHas : ℕ → ℕ → ℕ → List ℕ → DriverStage → ℕ → Type 0
  DriverHas n low high draft Idle at = ⊥
  DriverHas n low high draft Putting at = (high ≤ at) × (2 * at + 2 ≡ 2 * high + length draft)
  DriverHas n low high draft Reaping at = suc at ≡ low + n
  DriverHas n low high draft Closed at = ⊥

  -- the device has the slot of descriptor `at` out, where `done` were completed
  abbrev pub DeviceHas : ℕ → DeviceStage P → ℕ → Type 0
  DeviceHas done Resting at = ⊥
  DeviceHas done (Fetching f k) at = ⊥
  DeviceHas done (Holding f) at = suc at ≡ done + size segs f
  DeviceHas done (Behind f) at = ⊥

  -- how far the head is behind the completed frames
  abbrev pub lag : DeviceStage P → ℕ
  lag Resting = 0
  lag (Fetching f k) = 0
  lag (Holding f) = 0
  lag (Behind f) = size segs f

  -- what the device knows of the frames that it did not complete, and of those that it did
  abbrev pub DeviceAt : List P → List P → DeviceStage P → Type 0
  DeviceAt waiting completed Resting = ⊤
  DeviceAt waiting completed (Fetching f k) = ((rest : List P) × (waiting ≡ f ∷ rest)) × (k < 2 * size segs f)
  DeviceAt waiting completed (Holding f) = (rest : List P) × (waiting ≡ f ∷ rest)
  DeviceAt waiting completed (Behind f) = (before : List P) × (completed ≡ before ++ f ∷ [])

  pub record Stands (n : ℕ) (words : List ℕ) (homes : List (maybe.Option (Option P))) (d : DriverView P)
      (e : DeviceView P) : Type 0 where
    pub word_count : length words ≡ 3 + 2 * n
    pub slot_count : length homes ≡ n
    -- reaped is a prefix of completed, and completed of posted
    pub finished : List P
    pub waiting : List P
    pub completed_is : e.completed ≡ d.reaped ++ finished
    pub posted_is : d.posted ≡ e.completed ++ waiting
    pub frames : EachElement (λ (f : P). IsFrame (segs f)) (finished ++ waiting)
    -- at most n - 1 descriptors stand
    pub fits : 2 * extent segs (finished ++ waiting) + length d.draft + 2 ≤ 2 * n
    -- each stands in its place, with DD in the last one of a completed frame, and a post under way stands past the tail
    pub written : Round words 3 (2 * n) (2 * extent segs d.reaped)
        (lay segs true finished ++ (lay segs false waiting ++ d.draft))
    pub tail : slice_index words 0 ≡ extent segs d.posted % n
    pub head : slice_index words 1 ≡ (extent segs e.completed - lag e.stage) % n
    -- each frame lies in the slot of its last descriptor, and no other slot at home has one
    pub slots : (j : ℕ) → j < n → ¬ (DriverHas n (extent segs d.reaped) (extent segs d.posted) d.draft d.stage
        (extent segs d.reaped + j)) → ¬ (DeviceHas (extent segs e.completed) e.stage (extent segs d.reaped + j))
        → get_elem? homes ((extent segs d.reaped + j) % n)
        ≡ some (some (slice_index_or (stops segs (finished ++ waiting)) j None))
    pub fetches : DeviceAt waiting e.completed e.stage
    -- the closed word is set only where the driver was closed, and then all was reaped
    pub closed : slice_index words 2 ≢ 0 → (d.stage ≡ Closed) × (d.posted ≡ d.reaped)
    pub ended : e.ended ≡ true → slice_index words 2 ≢ 0
    -- and it is set once the driver was closed
    pub shut : d.stage ≡ Closed → slice_index words 2 ≢ 0
    pub driver_told : d.told ≤ length e.completed
    pub device_told : e.told ≤ length d.posted

  pub record IsRing (n : ℕ) (words : List ℕ) (homes : List (maybe.Option (Option P))) (views : List (View P)) : Type 0
    where
      pub driver : DriverView P
      pub device : DeviceView P
      pub driver_seat : ℕ
      pub device_seat : ℕ
      -- one seat is the driver's and one the device's
      pub drives : (seat : ℕ) (v : View P) → get_elem? views seat ≡ some v → v.drives ≡ true → (seat ≡ driver_seat)
          × (v.driver ≡ driver)
      pub gathers : (seat : ℕ) (v : View P) → get_elem? views seat ≡ some v → v.gathers ≡ true → (seat ≡ device_seat)
          × (v.device ≡ device)
      pub stands : Stands n words homes driver device
