-- A step that leaves the words, the slots and the lists as they are keeps the rule.
use Rattle.std.proofs.Common.{◌≡◌, ◌≢◌, ℕ, ◌+◌, ◌-◌, ◌%◌, ◌≤◌, List, length, get_or, Bool, true, ap, ◌∙◌, Option}
use mathlib.Core.Option as maybe
use Rattle.flake_base.specs.declared.segment.Seg.{Seg}
use Rattle.tx_ring.specs.Words.{extent}
use Rattle.tx_ring.specs.Rule.{Stands, DeviceHas, DeviceAt, lag}
use Rattle.tx_ring.specs.declared.view.DriverView.{DriverView}
use Rattle.tx_ring.specs.declared.view.DeviceView.{DeviceView}
use Rattle.tx_ring.specs.declared.view.DeviceStage.{DeviceStage}

module _ {P : Type 0} {segs : P → List Seg} {n : ℕ} {words : List ℕ} {homes : List (maybe.Option (Option P))}
    {d : DriverView P} {e : DeviceView P} (s : Stands segs n words homes d e) where
  -- what the ends saw and were told changes, and the device's stage, by which no slot comes home
  pub restated : (misses : List ℕ) (driver_told : ℕ) (blanks : List ℕ) (ended : Bool) (device_told : ℕ)
      (stage : DeviceStage P)
      → ((done at : ℕ) → DeviceHas segs done e.stage at → DeviceHas segs done stage at) → lag segs e.stage
      ≡ lag segs stage → DeviceAt segs s.waiting e.completed stage
      → (ended ≡ true → get_or words 2 0 ≢ 0) → driver_told ≤ length e.completed → device_told ≤ length d.posted
      → Stands segs n words homes (record d { misses = misses; told = driver_told })
      (record e { blanks = blanks; ended = ended; told = device_told; stage = stage })
  restated misses driver_told blanks ended device_told stage out behind fetches shut driver_short device_short =
      record {
        word_count = s.word_count;
        slot_count = s.slot_count;
        finished = s.finished;
        waiting = s.waiting;
        completed_is = s.completed_is;
        posted_is = s.posted_is;
        frames = s.frames;
        fits = s.fits;
        written = s.written;
        tail = s.tail;
        head = s.head ∙ ap (λ t. (extent segs e.completed - t) % n) behind;
        slots = λ j h a b. s.slots j h a (λ had. b (out (extent segs e.completed) (extent segs d.reaped + j) had));
        fetches = fetches;
        closed = s.closed;
        ended = shut;
        shut = s.shut;
        driver_told = driver_short;
        device_told = device_short;
      }
