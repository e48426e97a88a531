-- The frames that a joiner has, what is missing, and what it puts together.
use Rattle.std.specs.Prelude.{◌≡◌, ◌≢◌, ◌⊎◌, ℕ, zero, suc, ◌<◌, ◌==◌, ◌&&◌, ◌++◌, if◌then◌else◌}
use Rattle.std.specs.Prelude.{List, [], ◌∷◌, Option, Some, None, IsSome, Result, Ok, Err, MatchOption}
use Rattle.mtu_frames.specs.Frames.{MtuFrame}
use Rattle.mtu_frames.specs.declared.joiner.Missing.{Missing}
use Rattle.mtu_frames.specs.declared.joiner.Taken.{Taken}
use Rattle.mtu_frames.specs.declared.joiner.Taken.TheVariants.{New, Again}
use Rattle.mtu_frames.specs.declared.error.BadFrame.{BadFrame}
use Rattle.mtu_frames.specs.declared.error.BadFrame.TheVariants.{BadLength, BadField, BadIndex, BadSize, BadCall}
use Rattle.mtu_frames.specs.declared.error.BadFrame.TheVariants.{Conflict, Memory}

pub record Joining : Type 0 where
  pub mtu : ℕ
  pub calls : ℕ
  -- the frames that were taken, in the order of their calls and indexes
  pub frames : List MtuFrame

-- the frame of a call at an index, if it was taken
abbrev pub frame_at : List MtuFrame → ℕ → ℕ → Option MtuFrame
frame_at [] call index = None
frame_at (frame ∷ frames) call index =
    if call == frame.call && index == frame.index then Some frame else frame_at frames call index

-- the same frames, and this one
abbrev pub HasNewFrame : List MtuFrame → List MtuFrame → MtuFrame → Type 0
HasNewFrame old new frame = (call index : ℕ) → frame_at new call index
    ≡ (if frame.call == call && frame.index == index then Some frame else frame_at old call index)

-- an earlier frame of the call has another count, or the same index and other bytes
abbrev pub Conflicts : List MtuFrame → MtuFrame → Type 0
Conflicts frames frame = (earlier : MtuFrame) × (frame_at frames earlier.call earlier.index ≡ Some earlier)
    × (earlier.call ≡ frame.call)
    × ((earlier.count ≢ frame.count) ⊎ ((earlier.index ≡ frame.index) × (earlier.bytes ≢ frame.bytes)))

-- What a frame is answered that no test refuses, and what the joiner then has. Memory runs out only where the frame
-- is to be held.
abbrev pub Answers : MtuFrame → Result Taken BadFrame → List MtuFrame → List MtuFrame → Type 0
Answers frame (Ok New) old new =
    (frame_at old frame.call frame.index ≡ None) × ¬ (Conflicts old frame) × HasNewFrame old new frame
Answers frame (Ok Again) old new =
    (frame_at old frame.call frame.index ≡ Some frame) × ¬ (Conflicts old frame) × (new ≡ old)
Answers frame (Err (Conflict call index)) old new =
    (call ≡ frame.call) × (index ≡ frame.index) × Conflicts old frame × (new ≡ old)
Answers frame (Err Memory) old new =
    (frame_at old frame.call frame.index ≡ None) × ¬ (Conflicts old frame) × (new ≡ old)
Answers frame (Err (BadLength len)) old new = ⊥
Answers frame (Err (BadField byte)) old new = ⊥
Answers frame (Err (BadIndex index count)) old new = ⊥
Answers frame (Err (BadSize len)) old new = ⊥
Answers frame (Err (BadCall call)) old new = ⊥

-- all frames of a call are there
abbrev pub HasWhole : List MtuFrame → ℕ → Type 0
HasWhole frames call = (count : ℕ) × (0 < count)
    × ((index : ℕ) → index < count
    → (frame : MtuFrame) × (frame_at frames call index ≡ Some frame) × (frame.count ≡ count))

-- the least call, and in it the least index, that is not there; a call of which no frame was taken misses frame 0
pub record IsLeastMissing (frames : List MtuFrame) (calls : ℕ) (missing : Missing) : Type 0 where
  pub in_range : missing.call < calls
  pub absent : frame_at frames missing.call missing.frame ≡ None
  pub counted : (index : ℕ) (frame : MtuFrame) → frame_at frames missing.call index ≡ Some frame
      → missing.frame < frame.count
  pub here : (index : ℕ) → index < missing.frame → IsSome (frame_at frames missing.call index)
  pub before : (call : ℕ) → call < missing.call → HasWhole frames call

-- all frames of all calls are there
abbrev pub IsWhole : List MtuFrame → ℕ → Type 0
IsWhole frames calls = (call : ℕ) → call < calls → HasWhole frames call

-- what is missing
abbrev pub Misses : List MtuFrame → ℕ → Option Missing → Type 0
Misses frames calls missing = MatchOption missing (IsWhole frames calls) (IsLeastMissing frames calls)

abbrev pub frame_piece : Option MtuFrame → List ℕ
frame_piece None = []
frame_piece (Some frame) = frame.bytes

abbrev pub frame_count : Option MtuFrame → ℕ
frame_count None = 0
frame_count (Some frame) = frame.count

-- the bytes of a call's first frames, joined
abbrev pub pieces_joined : List MtuFrame → ℕ → ℕ → List ℕ
pieces_joined frames call zero = []
pieces_joined frames call (suc index) = pieces_joined frames call index ++ frame_piece (frame_at frames call index)

-- the reply to a call
abbrev pub reply_at : List MtuFrame → ℕ → List ℕ
reply_at frames call = pieces_joined frames call (frame_count (frame_at frames call 0))

-- the replies to the first calls, in call order
abbrev pub replies : List MtuFrame → ℕ → List ℕ
replies frames zero = []
replies frames (suc call) = replies frames call ++ reply_at frames call
