-- Which kind of step each play is.
use Rattle.std.specs.Prelude.{◌≡◌, ◌≢◌, ℕ, ◌+◌, ◌-◌, ◌*◌, ◌/◌, ◌%◌, ◌<◌, ◌≤◌, ◌⊎◌, List, [], ◌∷◌, true, false, length}
use Rattle.std.specs.Prelude.{slice_index, slice_set, Option, Some, None}
use mathlib.Core.Option.{some, none}
use mathlib.Core.Option as maybe
use lib.ListN.{get_elem?}
use Rattle.atomic_table.specs.Table.{State, Me, step}
use Rattle.flake_base.specs.declared.segment.Seg.{Seg}
use Rattle.tx_ring.specs.Words.{length_word, last_len, frame_words, IsFrame, size, extent}
use Rattle.tx_ring.specs.Plays.{wrote, wrote_last, moved_tail, looked, fetched, wrote_back, moved_head, saw_status}
use Rattle.tx_ring.specs.Plays.{Keeps, gave_back, shut, saw_closed, compared}
use Rattle.tx_ring.specs.StepKinds.{writes, writes_last, posts, blanks, finds, fetches, fetches_last, completes}
use Rattle.tx_ring.specs.StepKinds.{moves_head, misses, reaps, gives_back, closes, ends, peeks, table, draft_word}
use Rattle.tx_ring.specs.StepKinds.{last_place, status_word, IsOldest, Makes}
use Rattle.tx_ring.specs.declared.view.View.{View}
use Rattle.tx_ring.specs.declared.view.DriverStage.TheVariants.{Idle, Putting, Reaping}
use Rattle.tx_ring.specs.declared.view.DeviceStage.TheVariants.{Resting, Fetching, Holding, Behind}

-- misses, blanks and the ring's end are as they were
abbrev pub KeepsLooks : {P : Type 0} → View P → View P → Type 0
KeepsLooks v w = (w.driver.misses ≡ v.driver.misses) × (w.device.blanks ≡ v.device.blanks)
    × (w.device.ended ≡ v.device.ended)

-- the seat is m before the step and m' after it, and the table t before
module _ {P : Type 0} (segs : P → List Seg) (n : ℕ) (t : State (Option P) (View P)) (seat : ℕ)
    (m m' : Me (Option P) (View P)) where
  -- the table after a load, and after a store of x to the word k: these slots are at home then
  abbrev pub loaded : List (maybe.Option (Option P)) → State (Option P) (View P)
  loaded homes = table t.words homes (slice_set t.views seat m'.0)

  abbrev pub stored : ℕ → ℕ → List (maybe.Option (Option P)) → State (Option P) (View P)
  stored k x homes = table (slice_set t.words k x) homes (slice_set t.views seat m'.0)

  -- another seat is the driver's
  abbrev pub HasDriver : Type 0
  HasDriver = (other : ℕ) × (w : View P) × (other ≢ seat) × (get_elem? t.views other ≡ some w) × (w.drives ≡ true)

  -- a look at the status is a miss or a reap, one at the tail a blank or none, one at the closed word the ring's end or
  -- none, and every other play is of its kind too: so no other adds a miss, a blank or the end
  pub record PlayKinds : Type 0 where
    pub write :
        (x : ℕ) → m.0.drives ≡ true → m.0.driver.stage ≡ Idle
        → 2 * extent segs m.0.driver.posted + length m.0.driver.draft + 3
        ≤ 2 * extent segs m.0.driver.reaped + 2 * n
        → wrote segs (step n (draft_word segs n t seat m.0) x 0 none) m x m'
        → Makes segs n t seat m.0 (writes x) (stored (draft_word segs n t seat m.0) x t.homes)
    pub write_last :
        (x : ℕ) → m.0.drives ≡ true → m.0.driver.stage ≡ Idle
        → 2 * (length m.0.driver.draft / 2) + 1 ≡ length m.0.driver.draft
        → 2 * extent segs m.0.driver.posted + length m.0.driver.draft + 3
        ≤ 2 * extent segs m.0.driver.reaped + 2 * n
        → wrote_last segs (step n (draft_word segs n t seat m.0) x 0 none) m x m'
        → Makes segs n t seat m.0 (writes_last x)
        (stored (draft_word segs n t seat m.0) x
        (slice_set t.homes ((extent segs m.0.driver.posted + length m.0.driver.draft / 2) % n) none))
    pub post :
        (f : P) → m.0.drives ≡ true → m.0.driver.stage ≡ Putting → m.0.driver.draft ≡ frame_words false (segs f)
        → IsFrame (segs f) → m.1 ≡ (last_place segs n t seat m.0 (extent segs m.0.driver.posted) f, Some f) ∷ []
        → let tail : ℕ = (extent segs m.0.driver.posted + size segs f) % n in
        moved_tail segs (step n 0 tail 0 none) m tail m'
        → Makes segs n t seat m.0 (posts f)
        (stored 0 tail (slice_set t.homes (last_place segs n t seat m.0 (extent segs m.0.driver.posted) f)
        (some (Some f))))
    pub blank :
        m.0.gathers ≡ true → m.0.device.stage ≡ Resting
        → slice_index t.words 0 ≡ extent segs m.0.device.completed % n
        → looked segs (step n 0 0 0 none) m (slice_index t.words 0) m'
        → Makes segs n t seat m.0 blanks (loaded t.homes)
    pub find :
        m.0.gathers ≡ true → m.0.device.stage ≡ Resting
        → slice_index t.words 0 ≢ extent segs m.0.device.completed % n
        → looked segs (step n 0 0 0 none) m (slice_index t.words 0) m'
        → KeepsLooks m.0 m'.0
        × ((f : P) × (HasDriver → Keeps segs n (loaded t.homes) → Makes segs n t seat m.0 (finds f) (loaded t.homes)))
    pub fetch :
        (f : P) (j : ℕ) → m.0.gathers ≡ true → m.0.device.stage ≡ Fetching f j → j + 1 < 2 * size segs f
        → (k x : ℕ) → fetched segs (step n k 0 0 none) m x m'
        → Makes segs n t seat m.0 (fetches f j) (loaded t.homes)
    pub fetch_last :
        (f : P) (j : ℕ) → m.0.gathers ≡ true → m.0.device.stage ≡ Fetching f j → j + 1 ≡ 2 * size segs f
        → (k x : ℕ) → fetched segs (step n k 0 0 none) m x m'
        → Makes segs n t seat m.0 (fetches_last f j)
        (loaded (slice_set t.homes (last_place segs n t seat m.0 (extent segs m.0.device.completed) f) none))
    pub complete :
        (f : P) → m.0.gathers ≡ true → m.0.device.stage ≡ Holding f
        → m.1 ≡ (last_place segs n t seat m.0 (extent segs m.0.device.completed) f, Some f) ∷ []
        → let k : ℕ = status_word segs n t seat m.0 (extent segs m.0.device.completed) f in
        let x : ℕ = length_word (last_len (segs f)) true true in
        wrote_back segs (step n k x 0 none) m x m'
        → Makes segs n t seat m.0 (completes f)
        (stored k x (slice_set t.homes (last_place segs n t seat m.0 (extent segs m.0.device.completed) f)
        (some (Some f))))
    pub head :
        (f : P) → m.0.gathers ≡ true → m.0.device.stage ≡ Behind f
        → let head : ℕ = extent segs m.0.device.completed % n in
        moved_head segs (step n 1 head 0 none) m head m'
        → Makes segs n t seat m.0 (moves_head f) (stored 1 head t.homes)
    pub status :
        (f : P) → IsOldest segs n t seat m.0 f
        → let k : ℕ = status_word segs n t seat m.0 (extent segs m.0.driver.reaped) f in
        saw_status segs (step n k 0 0 none) m (slice_index t.words k) m'
        → Makes segs n t seat m.0 (misses f) (loaded t.homes)
        ⊎ Makes segs n t seat m.0 (reaps f)
        (loaded (slice_set t.homes (last_place segs n t seat m.0 (extent segs m.0.driver.reaped) f) none))
    pub give_back :
        m.0.drives ≡ true → m.0.driver.stage ≡ Reaping
        → (k x : ℕ) → gave_back segs (step n k 0 0 none) m x m'
        → Makes segs n t seat m.0 gives_back
        (loaded (slice_set t.homes ((extent segs m.0.driver.reaped + (n - 1)) % n) (some None)))
    pub close :
        m.0.drives ≡ true → m.0.driver.stage ≡ Idle → m.0.driver.posted ≡ m.0.driver.reaped
        → shut segs (step n 2 1 0 none) m 1 m'
        → Makes segs n t seat m.0 closes (stored 2 1 t.homes)
    pub end :
        m.0.gathers ≡ true → m.0.device.stage ≡ Resting → slice_index t.words 2 ≢ 0
        → saw_closed segs (step n 2 0 0 none) m (slice_index t.words 2) m'
        → Makes segs n t seat m.0 ends (loaded t.homes)
    pub still_open :
        slice_index t.words 2 ≡ 0 → saw_closed segs (step n 2 0 0 none) m (slice_index t.words 2) m'
        → Makes segs n t seat m.0 peeks (loaded t.homes)
    pub compare :
        (x : ℕ) → compared segs (step n 0 0 0 none) m x m' → Makes segs n t seat m.0 peeks (loaded t.homes)

abbrev pub PlaysAreKinds : {P : Type 0} → (P → List Seg) → Type 0
PlaysAreKinds {P} segs =
    (n : ℕ) (t : State (Option P) (View P)) (seat : ℕ) (m m' : Me (Option P) (View P))
    → get_elem? t.views seat ≡ some m.0 → PlayKinds segs n t seat m m'
