-- What is true of the frames of every joiner.
use Rattle.std.specs.Prelude.{◌≡◌, ◌≢◌, ℕ, ◌^◌, ◌<◌, ◌≤◌, Bool, true, false}
use Rattle.std.specs.Prelude.{List, Some, None, IsSome, Option, Result, Ok, Err, length}
use Rattle.mtu_frames.specs.Frames.{MtuFrame}
use Rattle.mtu_frames.specs.Joining.{frame_at, Conflicts, HasWhole, IsWhole}
use Rattle.mtu_frames.specs.declared.joiner.Missing.{Missing}
use Rattle.mtu_frames.specs.declared.error.BadFrame.{BadFrame}
use Rattle.mtu_frames.specs.declared.error.BadFrame.TheVariants.{BadLength, BadField, BadIndex, BadSize, BadCall}
use Rattle.mtu_frames.specs.declared.error.BadFrame.TheVariants.{Conflict, Memory}

-- the frames of a call have one count, which is above each of their indexes; none is empty
pub record AreKept (frames : List MtuFrame) : Type 0 where
  pub agree : (call i k : ℕ) (a b : MtuFrame) → frame_at frames call i ≡ Some a → frame_at frames call k ≡ Some b
      → a.count ≡ b.count
  pub below : (call index : ℕ) (frame : MtuFrame) → frame_at frames call index ≡ Some frame
      → (index < frame.count) × (frame.count < 2 ^ 32) × (0 < length frame.bytes)

-- all frames before this one are there, and its call has it
pub record AreBefore (frames : List MtuFrame) (call index : ℕ) : Type 0 where
  pub whole : (earlier : ℕ) → earlier < call → HasWhole frames earlier
  pub here : (earlier : ℕ) → earlier < index → IsSome (frame_at frames call earlier)
  pub counted : (i : ℕ) (frame : MtuFrame) → frame_at frames call i ≡ Some frame → index < frame.count

-- all frames of a call that were taken have this count
abbrev pub AllAgree : List MtuFrame → ℕ → ℕ → Type 0
AllAgree frames call count = (index : ℕ) (other : MtuFrame) → frame_at frames call index ≡ Some other → other.count
    ≡ count

-- one of them has another
abbrev pub OneDiffers : List MtuFrame → ℕ → ℕ → Type 0
OneDiffers frames call count =
    (index : ℕ) × (other : MtuFrame) × (frame_at frames call index ≡ Some other) × (other.count ≢ count)

-- none before what was missing is, or none at all
abbrev pub IsMissingBy : List MtuFrame → ℕ → Option Missing → Type 0
IsMissingBy frames calls None = IsWhole frames calls
IsMissingBy frames calls (Some missing) = (missing.call ≤ calls) × AreBefore frames missing.call missing.frame

-- whether a frame was taken before, or what it conflicts with
abbrev pub Knows : MtuFrame → List MtuFrame → Result Bool BadFrame → Type 0
Knows frame frames (Ok true) = (frame_at frames frame.call frame.index ≡ Some frame) × ¬ (Conflicts frames frame)
Knows frame frames (Ok false) = (frame_at frames frame.call frame.index ≡ None) × ¬ (Conflicts frames frame)
    × AllAgree frames frame.call frame.count
Knows frame frames (Err (Conflict call index)) = (call ≡ frame.call) × (index ≡ frame.index) × Conflicts frames frame
Knows frame frames (Err (BadLength len)) = ⊥
Knows frame frames (Err (BadField byte)) = ⊥
Knows frame frames (Err (BadIndex index count)) = ⊥
Knows frame frames (Err (BadSize len)) = ⊥
Knows frame frames (Err (BadCall call)) = ⊥
Knows frame frames (Err Memory) = ⊥
