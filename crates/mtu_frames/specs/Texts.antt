-- Texts, and a joiner that takes frames of them.
use Rattle.std.specs.Prelude.{◌≡◌, ◌⊎◌, ℕ, ◌+◌, ◌^◌, ◌<◌, ◌≤◌, List, [], ◌∷◌, Some, None, Ok, length, slice_get}
use Rattle.std.specs.List.{concat}
use Rattle.mtu_frames.specs.Frames.{MtuFrame, mtu_frame_bytes, frames_of}
use Rattle.mtu_frames.specs.Reading.{refusal, frame_read}
use Rattle.mtu_frames.specs.Joining.{Joining, frame_at, HasNewFrame, Conflicts, Answers, IsLeastMissing, IsWhole}
use Rattle.mtu_frames.specs.Joining.{replies}
use Rattle.mtu_frames.specs.declared.joiner.Missing.{Missing}
use Rattle.mtu_frames.specs.declared.joiner.Taken.{Taken}

-- a frame of the text of its call
pub record IsFrameOf (mtu : ℕ) (texts : List (List ℕ)) (frame : MtuFrame) : Type 0 where
  pub text : List ℕ
  pub text_is : slice_get texts frame.call ≡ Some text
  pub frame_is : slice_get (frames_of text frame.call mtu) frame.index ≡ Some frame

-- a joiner of as many calls as there are texts took frames of them alone
pub record TookFramesOf (texts : List (List ℕ)) (joining : Joining) : Type 0 where
  pub count : joining.calls ≡ length texts
  pub each : (call index : ℕ) (frame : MtuFrame) → frame_at joining.frames call index ≡ Some frame
      → IsFrameOf joining.mtu texts frame

-- a frame before a place
abbrev pub IsLess : MtuFrame → ℕ → ℕ → Type 0
IsLess frame call index = (frame.call < call) ⊎ ((frame.call ≡ call) × (frame.index < index))

-- the least frame of the texts that wasn't taken
pub record IsLeastOf (texts : List (List ℕ)) (joining : Joining) (missing : Missing) : Type 0 where
  pub text : List ℕ
  pub text_is : slice_get texts missing.call ≡ Some text
  pub is_frame : missing.frame < length (frames_of text missing.call joining.mtu)
  pub absent : frame_at joining.frames missing.call missing.frame ≡ None
  pub lesser : (frame : MtuFrame) → IsFrameOf joining.mtu texts frame → IsLess frame missing.call missing.frame
      → frame_at joining.frames frame.call frame.index ≡ Some frame

-- A joiner that took frames of texts alone has those texts where none is missing.
abbrev pub JoinsTexts : Type 0
JoinsTexts = (texts : List (List ℕ)) (joining : Joining) → 16 < joining.mtu → TookFramesOf texts joining
    → IsWhole joining.frames joining.calls → replies joining.frames joining.calls ≡ concat texts

-- What it misses is the least frame of the texts that it didn't take; no text is empty.
abbrev pub NamesLeast : Type 0
NamesLeast = (texts : List (List ℕ)) (joining : Joining) (missing : Missing) → 16 < joining.mtu
    → ((call : ℕ) → slice_get texts call ≡ Some [] → ⊥) → TookFramesOf texts joining
    → IsLeastMissing joining.frames joining.calls missing → IsLeastOf texts joining missing

-- It goes on to have taken frames of the texts alone.
abbrev pub GoesOnJoining : Type 0
GoesOnJoining = (texts : List (List ℕ)) (old new : Joining) (frame : MtuFrame) → new.mtu ≡ old.mtu
    → new.calls ≡ old.calls
    → TookFramesOf texts old → IsFrameOf old.mtu texts frame → HasNewFrame old.frames new.frames frame
    → TookFramesOf texts new

-- Each such frame is read as it was sent, and refused neither by itself nor for an earlier one; the numbers fit their
-- fields.
abbrev pub TakesFrames : Type 0
TakesFrames = (texts : List (List ℕ)) (joining : Joining) (frame : MtuFrame) → 64 ≤ joining.mtu → joining.mtu ≤ 9216
    → length texts < 2 ^ 32 → frame.count < 2 ^ 32 → TookFramesOf texts joining → IsFrameOf joining.mtu texts frame
    → (refusal joining.mtu joining.calls (mtu_frame_bytes frame) ≡ None) × (frame_read (mtu_frame_bytes frame) ≡ frame)
    × ¬ (Conflicts joining.frames frame)

-- Frames that a joiner took one after another, each as new or again, and what it had before and has then.
abbrev pub TookInTurn : List MtuFrame → List MtuFrame → List MtuFrame → Type 0
TookInTurn [] old new = new ≡ old
TookInTurn (frame ∷ sent) old new =
    (mid : List MtuFrame) × (taken : Taken) × Answers frame (Ok taken) old mid × TookInTurn sent mid new

-- a joiner has the frames that were sent, and no others
pub record HasSent (sent frames : List MtuFrame) : Type 0 where
  pub each : (place : ℕ) (frame : MtuFrame) → slice_get sent place ≡ Some frame
      → frame_at frames frame.call frame.index ≡ Some frame
  pub only : (call index : ℕ) (frame : MtuFrame) → frame_at frames call index ≡ Some frame
      → (place : ℕ) × (slice_get sent place ≡ Some frame)

-- In whatever order and however often frames of the texts are sent, a joiner that took each has them and no others.
abbrev pub TakesAnyOrder : Type 0
TakesAnyOrder = (texts : List (List ℕ)) (joining : Joining) (sent : List MtuFrame) → joining.calls ≡ length texts
    → ((place : ℕ) (frame : MtuFrame) → slice_get sent place ≡ Some frame → IsFrameOf joining.mtu texts frame)
    → TookInTurn sent [] joining.frames → TookFramesOf texts joining × HasSent sent joining.frames
