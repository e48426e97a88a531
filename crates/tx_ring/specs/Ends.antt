-- What a clause says of a ring's table and of its two ends.
use Rattle.std.specs.Prelude.{◌≡◌, ℕ, ◌+◌, ◌-◌, ◌*◌, ◌%◌, ◌<◌, ◌≤◌, List, [], ◌∷◌, true, false, length}
use Rattle.std.specs.Prelude.{slice_index, Option, Some, None}
use Rattle.atomic_table.specs.Seated.{TableId}
use Rattle.flake_base.specs.declared.segment.Seg.{Seg}
use Rattle.tx_ring.specs.Words.{length_word, last_len, frame_words, IsFrame, size, extent}
use Rattle.tx_ring.specs.Rule.{blank_driver, blank_device}
use Rattle.tx_ring.specs.declared.view.DriverView.{DriverView}
use Rattle.tx_ring.specs.declared.view.View.{View}
use Rattle.tx_ring.specs.declared.view.DeviceView.{DeviceView}
use Rattle.tx_ring.specs.declared.view.DeviceStage.TheVariants.{Resting, Fetching, Holding, Behind}
use Rattle.atomic_table.specs.Table.{Me}
use Rattle.tx_ring.specs.Moves.{drafting, fetching, holding}
use Rattle.tx_ring.specs.declared.view.DriverStage.TheVariants.{Idle, Putting, Reaping}

abbrev pub HasRingSizes : ℕ → TableId → Type 0
HasRingSizes n z = (z.slots ≡ n) × (z.words ≡ 3 + 2 * n) × (0 < n) × (n ≤ 4096)

-- the driver's seat between two calls
abbrev pub driving : {P : Type 0} → DriverView P → View P
driving d = record {
  drives = true;
  gathers = false;
  driver = record d { draft = []; stage = Idle };
  device = blank_device;
}

-- the driver's seat, whatever the driver has begun
abbrev pub steering : {P : Type 0} → DriverView P → View P
steering d = record { drives = true; gathers = false; driver = d; device = blank_device }

-- the device's seat
abbrev pub gathering : {P : Type 0} → DeviceView P → View P
gathering e = record { drives = false; gathers = true; driver = blank_driver; device = e }

-- no frame is out with it
abbrev pub IsAtRest : {P : Type 0} → Me (Option P) (View P) → Type 0
IsAtRest m = (m ≡ (gathering m.0.device, [])) × (m.0.device.stage ≡ Resting)

-- the descriptor `at` of the next frame is fetched next
abbrev pub IsFetching : {P : Type 0} → (P → List Seg) → ℕ → Me (Option P) (View P) → ℕ → ℕ → P → Type 0
IsFetching segs n m place at f = (m ≡ (gathering m.0.device, [])) × (m.0.device.stage ≡ Fetching f (2 * at))
    × (at < size segs f) × IsFrame (segs f) × (place ≡ (extent segs m.0.device.completed + at) % n)

-- the word k of the table is the next one of the next frame
abbrev pub IsAtWord : {P : Type 0} → (P → List Seg) → ℕ → Me (Option P) (View P) → ℕ → Type 0
IsAtWord {P} segs n m k = (f : P) × (j : ℕ) × (m.0.gathers ≡ true) × (m.0.device.stage ≡ Fetching f j)
    × (k ≡ 3 + (2 * extent segs m.0.device.completed + j) % (2 * n))

-- the slot of the next frame is out, with the frame, and its status with DD is this
abbrev pub IsHolding : {P : Type 0} → (P → List Seg) → ℕ → Me (Option P) (View P) → ℕ → ℕ → Type 0
IsHolding {P} segs n m last status = (f : P) × (m.0.gathers ≡ true) × (m.0.device.stage ≡ Holding f)
    × (m.1 ≡ (last, Some f) ∷ []) × (0 < size segs f)
    × (last ≡ (extent segs m.0.device.completed + (size segs f - 1)) % n)
    × (status ≡ length_word (last_len (segs f)) true true)

-- a frame was completed, and the head goes behind it
abbrev pub IsBehind : {P : Type 0} → (P → List Seg) → ℕ → Me (Option P) (View P) → ℕ → Type 0
IsBehind {P} segs n m head = (f : P) × (m.0.gathers ≡ true) × (m.0.device.stage ≡ Behind f)
    × (head ≡ extent segs m.0.device.completed % n)

-- the empty slot of the last frame that was reaped is out
abbrev pub HasTaken : {P : Type 0} → (P → List Seg) → ℕ → Me (Option P) (View P) → ℕ → Type 0
HasTaken segs n m last = (last < n) × (m.0.drives ≡ true) × (m.0.driver.stage ≡ Reaping)
    × (m.1 ≡ ((extent segs m.0.driver.reaped + (n - 1)) % n, None) ∷ [])

-- a whole frame stands past the tail, it lies in the slot of its last descriptor, and the tail goes behind it
abbrev pub IsPut : {P : Type 0} → (P → List Seg) → ℕ → Me (Option P) (View P) → ℕ → Type 0
IsPut {P} segs n m tail = (f : P) × (m.0.drives ≡ true) × (m.0.driver.stage ≡ Putting)
    × (m.0.driver.draft ≡ frame_words false (segs f)) × IsFrame (segs f)
    × (m.1 ≡ ((extent segs m.0.driver.posted + (size segs f - 1)) % n, Some f) ∷ [])
    × (tail ≡ (extent segs m.0.driver.posted + size segs f) % n)

-- a seat that has both ends
abbrev pub IsBoth : {P : Type 0} → View P → Type 0
IsBoth v = (v.drives ≡ true) × (v.gathers ≡ true)

-- what was fetched: its two words, and after the last one the frame's slot is out
abbrev pub Fetched : {P : Type 0} → (P → List Seg) → Me (Option P) (View P) → Me (Option P) (View P) → ℕ → ℕ → ℕ → ℕ → P
    → Type 0
Fetched segs m m' place at low high f = (low ≡ slice_index (frame_words false (segs f)) (2 * at))
    × (high ≡ slice_index (frame_words false (segs f)) (2 * at + 1))
    × (at + 1 < size segs f → m' ≡ (gathering (fetching f (2 * (at + 1)) m.0.device), []))
    × (at + 1 ≡ size segs f → m' ≡ (gathering (holding f m.0.device), (place, Some f) ∷ []))

abbrev pub with_draft : {P : Type 0} → List ℕ → View P → View P
with_draft ws v = record v { driver = record v.driver { draft = ws } }

module _ {P : Type 0} (segs : P → List Seg) where
  -- whole descriptors stand past the tail, and `place` is where the next one goes, for which there is room
  pub record IsDrafting (n : ℕ) (v : View P) (place : ℕ) : Type 0 where
    pub drives : v.drives ≡ true
    pub idle : v.driver.stage ≡ Idle
    pub drafted : ℕ
    pub whole : length v.driver.draft ≡ 2 * drafted
    pub is_place : place ≡ (extent segs v.driver.posted + drafted) % n
    pub room : extent segs v.driver.posted + drafted + 2 ≤ extent segs v.driver.reaped + n

  -- the first word of the descriptor at `place` was written last
  abbrev pub IsHalfDrafted : ℕ → View P → ℕ → Type 0
  IsHalfDrafted n v place = (w : View P) × (x : ℕ) × IsDrafting n w place
      × (v ≡ record w { driver = drafting x w.driver })
