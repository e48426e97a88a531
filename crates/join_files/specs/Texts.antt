-- All frames of some texts, one behind the other.
use Rattle.std.specs.Prelude.{◌≡◌, ◌≤◌, ◌<◌, ◌^◌, ℕ, List, [], Some, length, slice_get}
use Rattle.std.specs.List.{concat, flat_map}
use Rattle.mtu_frames.specs.Frames.{MtuFrame, mtu_frame_bytes}
use Rattle.mtu_frames.specs.Joining.{IsWhole, replies}
use Rattle.mtu_frames.specs.Texts.{IsFrameOf}
use Rattle.mtu_frames.specs.declared.joiner.Missing.{Missing}
use Rattle.join_files.specs.Cutting.{file_frames}
use Rattle.join_files.specs.Joined.{TookAll, IsFirstRefused, IsMissingOf}

-- these bytes are frames of the texts, and each frame of theirs, in whatever order and however often
pub record AreFramesOf (mtu : ℕ) (texts : List (List ℕ)) (bytes : List ℕ) : Type 0 where
  -- no text is empty
  pub filled : (call : ℕ) → slice_get texts call ≡ Some [] → ⊥
  pub sent : List MtuFrame
  pub bytes_are : bytes ≡ flat_map mtu_frame_bytes sent
  pub each : (place : ℕ) (frame : MtuFrame) → slice_get sent place ≡ Some frame → IsFrameOf mtu texts frame
  -- the numbers fit their fields
  pub fits : (place : ℕ) (frame : MtuFrame) → slice_get sent place ≡ Some frame → frame.count < 2 ^ 32
  pub all : (frame : MtuFrame) → IsFrameOf mtu texts frame → (place : ℕ) × (slice_get sent place ≡ Some frame)

-- none of the frames is refused, none is missing, and put together they are the texts
pub record AreJoinedTo (mtu : ℕ) (texts : List (List ℕ)) (sent : List (List ℕ)) : Type 0 where
  pub none_refused : (number : ℕ) → IsFirstRefused mtu (length texts) sent number → ⊥
  pub none_missing : (missing : Missing) → IsMissingOf mtu (length texts) sent missing → ⊥
  pub joined : (frames : List MtuFrame) → TookAll mtu (length texts) sent frames → IsWhole frames (length texts)
      → replies frames (length texts) ≡ concat texts

abbrev pub JoinsFrames : Type 0
JoinsFrames = (mtu : ℕ) (texts : List (List ℕ)) (bytes : List ℕ) → 64 ≤ mtu → mtu ≤ 9216 → length texts < 2 ^ 32
    → AreFramesOf mtu texts bytes → AreJoinedTo mtu texts (file_frames bytes)
