-- How many of a session's replies its wire was sent whole, and their bytes.
use Rattle.std.specs.Prelude.{◌≡◌, ℕ, ◌+◌, ◌-◌, ◌^◌, min, Bool, false, List, Option, length, take}
use Rattle.std.specs.Borrow.{Bor}
use Rattle.any_wire.specs.Sends.{Sends}
use Rattle.reply_planner.specs.Parcels.{Sent, texts_in}
use Rattle.device_model.specs.declared.gathered.Gathered.{Gathered}
use Rattle.device_model.specs.declared.gathered.Gathered.TheVariants as found
use Rattle.any_wire.specs.Texts.{AreWhole, WireGrew, joined}
use Rattle.session_serve.specs.Forms.{each_as_sent}

-- a count of bytes once so many more were counted: it stands still at the last value of a `u64`
abbrev pub raised : ℕ → ℕ → ℕ
raised count n = min (count + n) (2 ^ 64 - 1)

-- how many bytes were put in a whole reply by a call of a device that gives this
abbrev pub whole_bytes_of : Gathered → ℕ
whole_bytes_of (found.Sent call bytes) = bytes
whole_bytes_of (found.Dropped call bytes) = 0
whole_bytes_of found.Empty = 0
whole_bytes_of found.Closed = 0

module _ {W : Type 0} (put_may : W → Bor (List ℕ) → (W × Bool) → Type 0) (flush_may : W → (W × Bool) → Type 0) where
  -- So many of these texts were sent whole, each as it stands in the first list, one after another: all of them, where
  -- nothing failed; and where something did, a front of the next one behind them, if there is one. The texts have so
  -- many bytes, as a `u64` shows it.
  pub record SentWhole (failed : Bool) (sent texts : List (List ℕ)) (bytes : ℕ) (old new : W) : Type 0 where
    pub whole : ℕ
    pub are_whole : AreWhole failed whole (length texts)
    pub grew : WireGrew (Sends put_may flush_may false) failed whole sent old new
    pub bytes_are : bytes ≡ raised 0 (length (joined (take whole texts)))

module _
    {W : Type 0}
    (mtu : Option ℕ)
    (put_may : W → Bor (List ℕ) → (W × Bool) → Type 0)
    (flush_may : W → (W × Bool) → Type 0) where
  -- of some replies more; whatever was sent before
  abbrev pub KeepsWhole : Bool → Bool → List Sent → List Sent → ℕ → ℕ → W → W → Type 0
  KeepsWhole failed now before after bytes counted old new = (start : W)
      → SentWhole put_may flush_may failed (each_as_sent mtu before) (texts_in before) bytes start old
      → SentWhole put_may flush_may now (each_as_sent mtu after) (texts_in after) counted start new

  -- with so many bytes more
  abbrev pub SendsMore : Bool → Bool → List Sent → List Sent → ℕ → W → W → Type 0
  SendsMore failed now before after more old new = (bytes : ℕ)
      → KeepsWhole failed now before after bytes (raised bytes more) old new
