-- Any steps by both ends, from the opening on.
use Rattle.std.specs.Prelude.{◌≡◌, ℕ, ◌+◌, ◌*◌, ◌<◌, List, [], ◌∷◌, ◌++◌, Bool, true, false, length}
use Rattle.std.specs.Prelude.{replicate, Option, None}
use mathlib.Core.Option.{some}
use lib.ListN.{get_elem?}
use Rattle.atomic_table.specs.Table.{State, opening}
use Rattle.flake_base.specs.declared.segment.Seg.{Seg}
use Rattle.tx_ring.specs.Rule.{opener}
use Rattle.tx_ring.specs.Plays.{Keeps}
use Rattle.tx_ring.specs.StepKinds.{RingStep, writes, writes_last, posts, blanks, finds, fetches, fetches_last}
use Rattle.tx_ring.specs.StepKinds.{completes}
use Rattle.tx_ring.specs.StepKinds.{moves_head, misses, reaps, gives_back, closes, ends, peeks, splits, joins, enters}
use Rattle.tx_ring.specs.StepKinds.{Makes}
use Rattle.tx_ring.specs.declared.view.View.{View}
use Rattle.tx_ring.specs.declared.view.DriverView.{DriverView}
use Rattle.tx_ring.specs.declared.view.DeviceView.{DeviceView}

-- what steps told
pub record Tally (P : Type 0) : Type 0 where
  pub posted : List P
  pub reaped : List P
  -- for each look that found no DD, how many frames were reaped until then
  pub misses : List ℕ
  pub completed : List P
  -- for each look that found the tail at the head, how many frames were completed until then
  pub blanks : List ℕ
  -- the closed word was found set
  pub ended : Bool

module _ {P : Type 0} where
  abbrev pub nothing_told : Tally P
  nothing_told = record { posted = []; reaped = []; misses = []; completed = []; blanks = []; ended = false }

  abbrev pub tell : RingStep P → Tally P → Tally P
  tell (writes x) y = y
  tell (writes_last x) y = y
  tell (posts f) y = record y { posted = y.posted ++ f ∷ [] }
  tell blanks y = record y { blanks = y.blanks ++ length y.completed ∷ [] }
  tell (finds f) y = y
  tell (fetches f j) y = y
  tell (fetches_last f j) y = y
  tell (completes f) y = record y { completed = y.completed ++ f ∷ [] }
  tell (moves_head f) y = y
  tell (misses f) y = record y { misses = y.misses ++ length y.reaped ∷ [] }
  tell (reaps f) y = record y { reaped = y.reaped ++ f ∷ [] }
  tell gives_back y = y
  tell closes y = y
  tell ends y = record y { ended = true }
  tell peeks y = y
  tell splits y = y
  tell (joins other w) y = y
  tell enters y = y

  -- the steps in turn
  abbrev pub tells : List (RingStep P) → Tally P → Tally P
  tells [] y = y
  tells (kind ∷ kinds) y = tells kinds (tell kind y)

  -- a driver's view has these lists, and a device's
  pub record DriverTells (y : Tally P) (d : DriverView P) : Type 0 where
    pub posted : d.posted ≡ y.posted
    pub reaped : d.reaped ≡ y.reaped
    pub misses : d.misses ≡ y.misses

  pub record DeviceTells (y : Tally P) (e : DeviceView P) : Type 0 where
    pub completed : e.completed ≡ y.completed
    pub blanks : e.blanks ≡ y.blanks
    pub ended : e.ended ≡ y.ended

  abbrev pub opened : ℕ → State (Option P) (View P)
  opened n = opening (replicate (3 + 2 * n) 0) (replicate n None) opener

module _ {P : Type 0} (segs : P → List Seg) (n : ℕ) where
  -- some seat makes a step
  pub record Steps (kind : RingStep P) (old new : State (Option P) (View P)) : Type 0 where
    pub seat : ℕ
    pub view : View P
    pub sits : get_elem? old.views seat ≡ some view
    pub makes : Makes segs n old seat view kind new

  abbrev pub Runs : State (Option P) (View P) → List (RingStep P) → State (Option P) (View P) → Type 0
  Runs old [] new = new ≡ old
  Runs old (kind ∷ kinds) new = (mid : State (Option P) (View P)) × Steps kind old mid × Runs mid kinds new

  -- the rule holds, and each end's seat tells what the steps told
  pub record AreTold (y : Tally P) (end : State (Option P) (View P)) : Type 0 where
    pub keeps : Keeps segs n end
    pub drivers :
        (seat : ℕ) (v : View P) → get_elem? end.views seat ≡ some v → v.drives ≡ true → DriverTells y v.driver
    pub devices :
        (seat : ℕ) (v : View P) → get_elem? end.views seat ≡ some v → v.gathers ≡ true → DeviceTells y v.device

-- after any steps from the opening on, misses are the looks that found no DD, blanks those that found the tail at the
-- head, and a device's end knows the ring closed exactly where a look found the closed word set
abbrev pub RingViewsCountRuns : {P : Type 0} → (P → List Seg) → Type 0
RingViewsCountRuns {P} segs =
    (n : ℕ) (kinds : List (RingStep P)) (end : State (Option P) (View P)) → 0 < n
    → Runs segs n (opened n) kinds end → AreTold segs n (tells kinds nothing_told) end
