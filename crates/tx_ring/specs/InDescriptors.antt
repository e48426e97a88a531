-- A ring's words as the descriptors that stand in it.
use Rattle.std.specs.Prelude.{◌≡◌, ℕ, ◌+◌, ◌*◌, ◌%◌, ◌<◌, List, [], ◌∷◌, ◌++◌, Bool, true, false, slice_index}
use Rattle.std.specs.Prelude.{slice_get, Option, Some}
use Rattle.std.specs.Int.{w64, to_le_bytes}
use mathlib.Core.Option as maybe
use Rattle.flake_base.specs.declared.segment.Seg.{Seg}
use Rattle.tx_descriptor.specs.declared.legacy.Legacy.{Legacy}
use Rattle.tx_descriptor.specs.Bytes.{descriptor_bytes}
use Rattle.tx_ring.specs.Rows.{frame_descriptors}
use Rattle.tx_ring.specs.Words.{extent}
use Rattle.tx_ring.specs.Rule.{IsRing}
use Rattle.tx_ring.specs.declared.view.View.{View}
use Rattle.tx_ring.specs.declared.view.DriverView.{DriverView}
use Rattle.tx_ring.specs.declared.view.DeviceView.{DeviceView}

-- the 16 bytes that stand at a place
abbrev pub place_bytes : List ℕ → ℕ → List ℕ
place_bytes words place =
    to_le_bytes w64 (slice_index words (3 + 2 * place)) ++ to_le_bytes w64 (slice_index words (3 + 2 * place + 1))

module _ {P : Type 0} (segs : P → List Seg) where
  -- the descriptors of frames, one behind the other
  abbrev pub descriptors_of : Bool → List P → List Legacy
  descriptors_of done [] = []
  descriptors_of done (f ∷ fs) = frame_descriptors done (segs f) ++ descriptors_of done fs

  -- The frames that were posted and not reaped, of which the first are completed: they have fewer descriptors than
  -- there are places, and each descriptor stands in its own.
  pub record HasDescriptors (n : ℕ) (words : List ℕ) (d : DriverView P) (e : DeviceView P) : Type 0 where
    pub finished : List P
    pub waiting : List P
    pub completed_is : e.completed ≡ d.reaped ++ finished
    pub posted_is : d.posted ≡ e.completed ++ waiting
    pub fits : extent segs (finished ++ waiting) < n
    pub each : (j : ℕ) (v : Legacy)
        → slice_get (descriptors_of true finished ++ descriptors_of false waiting) j ≡ Some v
        → place_bytes words ((extent segs d.reaped + j) % n) ≡ descriptor_bytes v
    -- none is left where the device found the ring closed
    pub ended : e.ended ≡ true → (finished ≡ []) × (waiting ≡ [])

  abbrev pub WordsAreDescriptors : Type 0
  WordsAreDescriptors =
      (n : ℕ) (words : List ℕ) (homes : List (maybe.Option (Option P))) (views : List (View P))
      (ring : IsRing segs n words homes views) → HasDescriptors n words ring.driver ring.device
