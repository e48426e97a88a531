-- What each step tells: of the step, the seat before, the number found or stored, and the seat after.
use Rattle.std.specs.Prelude.{◌≡◌, ◌≢◌, ℕ, ◌+◌, ◌-◌, ◌*◌, ◌/◌, ◌%◌, ◌<◌, ◌≤◌, List, [], ◌∷◌, ◌++◌, Bool, true, false, ⊤}
use Rattle.std.specs.Prelude.{length, slice_index, Option, Some, None}
use Rattle.atomic_table.specs.Table.{State, Me, Step, rest}
use Rattle.flake_base.specs.declared.segment.Seg.{Seg}
use Rattle.tx_ring.specs.Changes.{IsPrefix}
use Rattle.tx_ring.specs.Words.{length_word, last_len, frame_words, IsFrame, size, extent}
use Rattle.tx_ring.specs.Rule.{IsRing, blank_driver, blank_device}
use Rattle.tx_ring.specs.Moves.{drafting, drafted, posting, missed, reaping, idle, closing, blanked, fetching, holding}
use Rattle.tx_ring.specs.Moves.{completing, resting, ending}
use Rattle.tx_ring.specs.declared.view.View.{View}
use Rattle.tx_ring.specs.declared.view.DriverView.{DriverView}
use Rattle.tx_ring.specs.declared.view.DeviceView.{DeviceView}
use Rattle.tx_ring.specs.declared.view.DriverStage.TheVariants.{Closed}
use Rattle.tx_ring.specs.declared.view.DeviceStage.{DeviceStage}
use Rattle.tx_ring.specs.declared.view.DeviceStage.TheVariants.{Resting, Fetching, Holding, Behind}

module _ {P : Type 0} where
  abbrev pub with_driver : DriverView P → View P → View P
  with_driver d v = record v { driver = d }

  abbrev pub with_device : DeviceView P → View P → View P
  with_device e v = record v { device = e }

  -- the driver's part, which is told how many frames were completed, and the device's, which is told how many were
  -- posted
  abbrev pub driver_part : View P → View P
  driver_part v = record {
    drives = v.drives;
    gathers = false;
    driver = record v.driver { told = length v.device.completed };
    device = blank_device;
  }

  abbrev pub device_part : View P → View P
  device_part v = record {
    drives = false;
    gathers = v.gathers;
    driver = blank_driver;
    device = record v.device { told = length v.driver.posted };
  }

  abbrev pub both_parts : View P → View P → View P
  both_parts v w = record { drives = v.drives; gathers = w.gathers; driver = v.driver; device = w.device }

  -- reaped is a prefix of completed, and completed of posted
  abbrev pub InOrder : DriverView P → DeviceView P → Type 0
  InOrder d e = IsPrefix d.reaped e.completed × IsPrefix e.completed d.posted

module _ {P : Type 0} (segs : P → List Seg) where
  abbrev pub Keeps : ℕ → State (Option P) (View P) → Type 0
  Keeps n t = IsRing segs n t.words t.homes t.views

  abbrev pub wrote : Step (Option P) → Me (Option P) (View P) → ℕ → Me (Option P) (View P) → Type 0
  wrote st m r m' = m' ≡ (with_driver (drafting st.first m.0.driver) m.0, m.1)

  -- the slot of the last descriptor is out
  abbrev pub wrote_last : Step (Option P) → Me (Option P) (View P) → ℕ → Me (Option P) (View P) → Type 0
  wrote_last st m r m' = m' ≡ (
    with_driver (drafted st.first m.0.driver) m.0,
    ((extent segs m.0.driver.posted + length m.0.driver.draft / 2) % st.slots, None) ∷ m.1,
  )

  abbrev pub moved_tail : Step (Option P) → Me (Option P) (View P) → ℕ → Me (Option P) (View P) → Type 0
  moved_tail st m r m' = (k : ℕ) (f : P) → m.1 ≡ (k, Some f) ∷ [] → m' ≡ (with_driver (posting f m.0.driver) m.0, [])

  abbrev pub looked : Step (Option P) → Me (Option P) (View P) → ℕ → Me (Option P) (View P) → Type 0
  looked st m r m' = (r ≡ extent segs m.0.device.completed % st.slots
      → (m' ≡ (with_device (blanked m.0.device) m.0, m.1)) × (m.0.device.told ≤ length m.0.device.completed))
      × (r ≢ extent segs m.0.device.completed % st.slots → (f : P)
      × (m' ≡ (with_device (fetching f 0 m.0.device) m.0, m.1)) × IsFrame (segs f) × (size segs f < st.slots))

  abbrev pub Fetches : ℕ → Me (Option P) (View P) → ℕ → Me (Option P) (View P) → DeviceStage P → Type 0
  Fetches n m r m' Resting = ⊤
  Fetches n m r m' (Fetching f k) = (r ≡ slice_index (frame_words false (segs f)) k)
      × (k + 1 < 2 * size segs f → m' ≡ (with_device (fetching f (k + 1) m.0.device) m.0, m.1))
      × (k + 1 ≡ 2 * size segs f → m' ≡ (
        with_device (holding f m.0.device) m.0,
        ((extent segs m.0.device.completed + (size segs f - 1)) % n, Some f) ∷ m.1,
      ))
  Fetches n m r m' (Holding f) = ⊤
  Fetches n m r m' (Behind f) = ⊤

  abbrev pub fetched : Step (Option P) → Me (Option P) (View P) → ℕ → Me (Option P) (View P) → Type 0
  fetched st m r m' = Fetches st.slots m r m' m.0.device.stage

  abbrev pub wrote_back : Step (Option P) → Me (Option P) (View P) → ℕ → Me (Option P) (View P) → Type 0
  wrote_back st m r m' = (k : ℕ) (f : P) → m.1 ≡ (k, Some f) ∷ [] → m' ≡ (with_device (completing f m.0.device) m.0, [])

  abbrev pub moved_head : Step (Option P) → Me (Option P) (View P) → ℕ → Me (Option P) (View P) → Type 0
  moved_head st m r m' = m' ≡ (with_device (resting m.0.device) m.0, m.1)

  -- the status of the oldest frame's last descriptor
  abbrev pub saw_status : Step (Option P) → Me (Option P) (View P) → ℕ → Me (Option P) (View P) → Type 0
  saw_status st m r m' = (f : P) (more : List P) → m.0.driver.posted ≡ m.0.driver.reaped ++ f ∷ more
      → (done : Bool) × (r ≡ length_word (last_len (segs f)) true done) × (last_len (segs f) ≤ 4096)
      × (done ≡ true → m' ≡ (
        with_driver (reaping f m.0.driver) m.0,
        ((extent segs m.0.driver.reaped + (size segs f - 1)) % st.slots, Some f) ∷ m.1,
      ))
      × (done ≡ false → (m' ≡ (with_driver (missed m.0.driver) m.0, m.1))
      × (m.0.driver.told ≤ length m.0.driver.reaped))

  abbrev pub gave_back : Step (Option P) → Me (Option P) (View P) → ℕ → Me (Option P) (View P) → Type 0
  gave_back st m r m' = m' ≡ (with_driver (idle m.0.driver) m.0, rest m.1)

  abbrev pub shut : Step (Option P) → Me (Option P) (View P) → ℕ → Me (Option P) (View P) → Type 0
  shut st m r m' = m' ≡ (with_driver (closing m.0.driver) m.0, m.1)

  abbrev pub saw_closed : Step (Option P) → Me (Option P) (View P) → ℕ → Me (Option P) (View P) → Type 0
  saw_closed st m r m' = (r ≡ 0 → m' ≡ m) × (r ≢ 0 → m' ≡ (with_device (ending m.0.device) m.0, m.1))

  abbrev pub compared : Step (Option P) → Me (Option P) (View P) → ℕ → Me (Option P) (View P) → Type 0
  compared st m r m' = (m' ≡ m) × InOrder m.0.driver m.0.device × (m.0.device.ended ≡ true → m.0.driver.stage ≡ Closed)
