-- The kinds of step on a ring's table, and what each makes of words, slots and views.
use Rattle.std.specs.Prelude.{◌≡◌, ◌≢◌, ℕ, ◌+◌, ◌-◌, ◌*◌, ◌/◌, ◌%◌, ◌<◌, ◌≤◌, List, [], ◌∷◌, ◌++◌, true, false}
use Rattle.std.specs.Prelude.{length, slice_index, slice_set, Option, Some, None}
use mathlib.Core.Option.{some, none}
use mathlib.Core.Option as maybe
use lib.ListN.{get_elem?}
use Rattle.atomic_table.specs.Table.{State}
use Rattle.flake_base.specs.declared.segment.Seg.{Seg}
use Rattle.tx_ring.specs.Words.{length_word, last_len, frame_words, IsFrame, size, extent}
use Rattle.tx_ring.specs.Rule.{nobody}
use Rattle.tx_ring.specs.Moves.{drafting, drafted, posting, missed, reaping, idle, closing, blanked, fetching, holding}
use Rattle.tx_ring.specs.Moves.{completing, resting, ending}
use Rattle.tx_ring.specs.Plays.{Keeps, with_driver, with_device, driver_part, device_part, both_parts}
use Rattle.tx_ring.specs.declared.view.View.{View}
use Rattle.tx_ring.specs.declared.view.DriverView.{DriverView}
use Rattle.tx_ring.specs.declared.view.DeviceView.{DeviceView}
use Rattle.tx_ring.specs.declared.view.DriverStage.TheVariants.{Idle, Putting, Reaping}
use Rattle.tx_ring.specs.declared.view.DeviceStage.TheVariants.{Resting, Fetching, Holding, Behind}

pub data RingStep (P : Type 0) : Type 0 where
  -- a descriptor word past the tail; a frame's last one, with which the slot is taken; and the tail behind the frame
  writes : ℕ → RingStep P
  writes_last : ℕ → RingStep P
  posts : P → RingStep P
  -- a look at the tail that found it at the head, and one that found it elsewhere, where the next frame is this
  blanks : RingStep P
  finds : P → RingStep P
  -- so many words of the frame were loaded before; and its last word, with which the slot is taken
  fetches : P → ℕ → RingStep P
  fetches_last : P → ℕ → RingStep P
  -- the status with DD, and the head behind the frame
  completes : P → RingStep P
  moves_head : P → RingStep P
  -- a look at the oldest frame's status that found no DD, and one that found it
  misses : P → RingStep P
  reaps : P → RingStep P
  -- the empty slot comes home
  gives_back : RingStep P
  -- the driver sets the closed word, and the device finds it set
  closes : RingStep P
  ends : RingStep P
  -- a load that changes nothing
  peeks : RingStep P
  -- both ends at one seat part; they come to one seat, the device from the seat with this number and view; and a seat
  -- more, which has nothing
  splits : RingStep P
  joins : ℕ → View P → RingStep P
  enters : RingStep P

abbrev pub table : {P : Type 0} → List ℕ → List (maybe.Option (Option P)) → List (View P) → State (Option P) (View P)
table words homes views = record { words = words; homes = homes; views = views }

-- what the seat with the view v makes of the table t
module _ {P : Type 0} (segs : P → List Seg) (n : ℕ) (t : State (Option P) (View P)) (seat : ℕ) (v : View P) where
  abbrev pub driver_to : DriverView P → List (View P)
  driver_to d = slice_set t.views seat (with_driver d v)

  abbrev pub device_to : DeviceView P → List (View P)
  device_to e = slice_set t.views seat (with_device e v)

  -- the place of a frame's last descriptor, and its status, where so many descriptors stand before the frame
  abbrev pub last_place : ℕ → P → ℕ
  last_place before f = (before + (size segs f - 1)) % n

  abbrev pub status_word : ℕ → P → ℕ
  status_word before f = 3 + (2 * before + (2 * size segs f - 1)) % (2 * n)

  -- where the next word of a draft goes
  abbrev pub draft_word : ℕ
  draft_word = 3 + (2 * extent segs v.driver.posted + length v.driver.draft) % (2 * n)

  pub record MakesWrite (x : ℕ) (new : State (Option P) (View P)) : Type 0 where
    pub drives : v.drives ≡ true
    pub is_idle : v.driver.stage ≡ Idle
    pub room : 2 * extent segs v.driver.posted + length v.driver.draft + 3 ≤ 2 * extent segs v.driver.reaped + 2 * n
    pub made : new ≡ table (slice_set t.words draft_word x) t.homes (driver_to (drafting x v.driver))

  pub record MakesLast (x : ℕ) (new : State (Option P) (View P)) : Type 0 where
    pub drives : v.drives ≡ true
    pub is_idle : v.driver.stage ≡ Idle
    pub odd : 2 * (length v.driver.draft / 2) + 1 ≡ length v.driver.draft
    pub room : 2 * extent segs v.driver.posted + length v.driver.draft + 3 ≤ 2 * extent segs v.driver.reaped + 2 * n
    pub made : new ≡ table (slice_set t.words draft_word x)
        (slice_set t.homes ((extent segs v.driver.posted + length v.driver.draft / 2) % n) none)
        (driver_to (drafted x v.driver))

  pub record MakesPost (f : P) (new : State (Option P) (View P)) : Type 0 where
    pub drives : v.drives ≡ true
    pub putting : v.driver.stage ≡ Putting
    pub drafted : v.driver.draft ≡ frame_words false (segs f)
    pub frame : IsFrame (segs f)
    pub made : new ≡ table (slice_set t.words 0 ((extent segs v.driver.posted + size segs f) % n))
        (slice_set t.homes (last_place (extent segs v.driver.posted) f) (some (Some f)))
        (driver_to (posting f v.driver))

  pub record MakesBlank (new : State (Option P) (View P)) : Type 0 where
    pub gathers : v.gathers ≡ true
    pub rests : v.device.stage ≡ Resting
    pub at_head : slice_index t.words 0 ≡ extent segs v.device.completed % n
    pub made : new ≡ table t.words t.homes (device_to (blanked v.device))

  pub record MakesFind (f : P) (new : State (Option P) (View P)) : Type 0 where
    pub gathers : v.gathers ≡ true
    pub rests : v.device.stage ≡ Resting
    pub elsewhere : slice_index t.words 0 ≢ extent segs v.device.completed % n
    pub next : (r : Keeps segs n t) → (more : List P) × (r.driver.posted ≡ v.device.completed ++ f ∷ more)
    pub made : new ≡ table t.words t.homes (device_to (fetching f 0 v.device))

  pub record MakesFetch (f : P) (j : ℕ) (new : State (Option P) (View P)) : Type 0 where
    pub gathers : v.gathers ≡ true
    pub began : v.device.stage ≡ Fetching f j
    pub more : j + 1 < 2 * size segs f
    pub made : new ≡ table t.words t.homes (device_to (fetching f (j + 1) v.device))

  pub record MakesFetchLast (f : P) (j : ℕ) (new : State (Option P) (View P)) : Type 0 where
    pub gathers : v.gathers ≡ true
    pub began : v.device.stage ≡ Fetching f j
    pub whole : j + 1 ≡ 2 * size segs f
    pub made : new ≡ table t.words (slice_set t.homes (last_place (extent segs v.device.completed) f) none)
        (device_to (holding f v.device))

  pub record MakesComplete (f : P) (new : State (Option P) (View P)) : Type 0 where
    pub gathers : v.gathers ≡ true
    pub holds : v.device.stage ≡ Holding f
    pub made : new ≡ table
        (slice_set t.words (status_word (extent segs v.device.completed) f) (length_word (last_len (segs f)) true true))
        (slice_set t.homes (last_place (extent segs v.device.completed) f) (some (Some f)))
        (device_to (completing f v.device))

  pub record MakesHead (f : P) (new : State (Option P) (View P)) : Type 0 where
    pub gathers : v.gathers ≡ true
    pub behind : v.device.stage ≡ Behind f
    pub made : new ≡ table (slice_set t.words 1 (extent segs v.device.completed % n)) t.homes
        (device_to (resting v.device))

  -- f is the oldest frame, and the driver has begun nothing
  pub record IsOldest (f : P) : Type 0 where
    pub drives : v.drives ≡ true
    pub is_idle : v.driver.stage ≡ Idle
    pub no_draft : v.driver.draft ≡ []
    pub more : List P
    pub pending : v.driver.posted ≡ v.driver.reaped ++ f ∷ more

  pub record MakesMiss (f : P) (new : State (Option P) (View P)) : Type 0 where
    pub oldest : IsOldest f
    pub without :
        slice_index t.words (status_word (extent segs v.driver.reaped) f) ≡ length_word (last_len (segs f)) true false
    pub made : new ≡ table t.words t.homes (driver_to (missed v.driver))

  pub record MakesReap (f : P) (new : State (Option P) (View P)) : Type 0 where
    pub oldest : IsOldest f
    pub with_dd :
        slice_index t.words (status_word (extent segs v.driver.reaped) f) ≡ length_word (last_len (segs f)) true true
    pub made : new ≡ table t.words (slice_set t.homes (last_place (extent segs v.driver.reaped) f) none)
        (driver_to (reaping f v.driver))

  pub record MakesGiven (new : State (Option P) (View P)) : Type 0 where
    pub drives : v.drives ≡ true
    pub reaping_stage : v.driver.stage ≡ Reaping
    pub made : new ≡ table t.words (slice_set t.homes ((extent segs v.driver.reaped + (n - 1)) % n) (some None))
        (driver_to (idle v.driver))

  pub record MakesClosed (new : State (Option P) (View P)) : Type 0 where
    pub drives : v.drives ≡ true
    pub is_idle : v.driver.stage ≡ Idle
    pub all : v.driver.posted ≡ v.driver.reaped
    pub made : new ≡ table (slice_set t.words 2 1) t.homes (driver_to (closing v.driver))

  pub record MakesEnd (new : State (Option P) (View P)) : Type 0 where
    pub gathers : v.gathers ≡ true
    pub rests : v.device.stage ≡ Resting
    pub is_set : slice_index t.words 2 ≢ 0
    pub made : new ≡ table t.words t.homes (device_to (ending v.device))

  pub record MakesSplit (new : State (Option P) (View P)) : Type 0 where
    pub drives : v.drives ≡ true
    pub gathers : v.gathers ≡ true
    pub made : new ≡ table t.words t.homes (slice_set t.views seat (driver_part v) ++ device_part v ∷ [])

  pub record MakesJoin (other : ℕ) (w : View P) (new : State (Option P) (View P)) : Type 0 where
    pub drives : v.drives ≡ true
    pub gathers : w.gathers ≡ true
    pub apart : other ≢ seat
    pub sits : get_elem? t.views other ≡ some w
    pub made : new ≡ table t.words t.homes (slice_set (slice_set t.views seat (both_parts v w)) other nobody)

  abbrev pub Makes : RingStep P → State (Option P) (View P) → Type 0
  Makes (writes x) new = MakesWrite x new
  Makes (writes_last x) new = MakesLast x new
  Makes (posts f) new = MakesPost f new
  Makes blanks new = MakesBlank new
  Makes (finds f) new = MakesFind f new
  Makes (fetches f j) new = MakesFetch f j new
  Makes (fetches_last f j) new = MakesFetchLast f j new
  Makes (completes f) new = MakesComplete f new
  Makes (moves_head f) new = MakesHead f new
  Makes (misses f) new = MakesMiss f new
  Makes (reaps f) new = MakesReap f new
  Makes gives_back new = MakesGiven new
  Makes closes new = MakesClosed new
  Makes ends new = MakesEnd new
  Makes peeks new = new ≡ t
  Makes splits new = MakesSplit new
  Makes (joins other w) new = MakesJoin other w new
  Makes enters new = new ≡ table t.words t.homes (t.views ++ nobody ∷ [])

-- each kind of step keeps the rule
abbrev pub StepsKeepRings : {P : Type 0} → (P → List Seg) → Type 0
StepsKeepRings {P} segs =
    (n : ℕ) (t new : State (Option P) (View P)) (seat : ℕ) (v : View P) (kind : RingStep P)
    → Keeps segs n t → get_elem? t.views seat ≡ some v → Makes segs n t seat v kind new → Keeps segs n new
