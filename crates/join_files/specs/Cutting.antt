-- The frames of a file, one behind the other.
use Rattle.std.specs.Prelude.{ℕ, zero, suc, ◌+◌, List, [], ◌∷◌, length, take, drop}
use Rattle.mtu_frames.specs.Reading.{head_of}

-- how many bytes the next frame has by its header; a rest that is shorter than that is one frame
abbrev pub next_length : List ℕ → ℕ
next_length bytes = 16 + (head_of bytes).len

-- at most so many frames
abbrev pub frames_within : ℕ → List ℕ → List (List ℕ)
frames_within zero bytes = []
frames_within (suc more) [] = []
frames_within (suc more) (byte ∷ bytes) =
    take (next_length (byte ∷ bytes)) (byte ∷ bytes)
    ∷ frames_within more (drop (next_length (byte ∷ bytes)) (byte ∷ bytes))

-- all frames; each has a byte at least
abbrev pub file_frames : List ℕ → List (List ℕ)
file_frames bytes = frames_within (length bytes) bytes
