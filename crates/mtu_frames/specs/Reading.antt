-- What is read of the bytes of a frame, and when they are refused whatever was taken before.
use Rattle.std.specs.Prelude.{ℕ, ◌+◌, ◌-◌, ◌==◌, nat_lt, nat_le, Bool, ◌&&◌, ◌||◌, if◌then◌else◌}
use Rattle.std.specs.Prelude.{List, [], ◌∷◌, Option, Some, None, Result, Ok, Err, length, drop, slice_index}
use Rattle.std.specs.Int.{w16, w32, from_le_bytes}
use Rattle.mtu_frames.specs.Frames.{MtuFrame}
use Rattle.mtu_frames.specs.declared.head.Head.{Head}
use Rattle.mtu_frames.specs.declared.error.BadFrame.{BadFrame}
use Rattle.mtu_frames.specs.declared.error.BadFrame.TheVariants.{BadLength, BadField, BadIndex, BadSize, BadCall}

-- the number of four bytes from a place on, and of two, the low byte first
abbrev pub four_at : List ℕ → ℕ → ℕ → ℕ → ℕ → ℕ
four_at bytes a b c d =
    from_le_bytes w32 (slice_index bytes a ∷ slice_index bytes b ∷ slice_index bytes c ∷ slice_index bytes d ∷ [])

abbrev pub two_at : List ℕ → ℕ → ℕ → ℕ
two_at bytes a b = from_le_bytes w16 (slice_index bytes a ∷ slice_index bytes b ∷ [])

-- the header that bytes begin with
abbrev pub head_of : List ℕ → Head
head_of bytes = record {
  call = four_at bytes 0 1 2 3;
  index = four_at bytes 4 5 6 7;
  count = four_at bytes 8 9 10 11;
  len = two_at bytes 12 13;
}

-- the frame that bytes are
abbrev pub frame_read : List ℕ → MtuFrame
frame_read bytes = record {
  call = four_at bytes 0 1 2 3;
  index = four_at bytes 4 5 6 7;
  count = four_at bytes 8 9 10 11;
  bytes = drop 16 bytes;
}

-- as many bytes as the header says
abbrev pub has_length : List ℕ → Bool
has_length bytes = nat_le 16 (length bytes) && (length bytes == 16 + (head_of bytes).len)

-- from 1 byte of the reply to as many as fit, and as many as fit where more frames follow
abbrev pub has_size : ℕ → Head → Bool
has_size mtu header =
    nat_lt 0 header.len && nat_le header.len (mtu - 16)
    && (header.len == mtu - 16 || header.index + 1 == header.count)

-- a test, and the refusal where it fails
abbrev pub FrameTest : Type 0
FrameTest = Bool × BadFrame

-- the refusal of the first test that fails
abbrev pub first_failed : List FrameTest → Option BadFrame
first_failed [] = None
first_failed (test ∷ tests) = if test.0 then first_failed tests else Some test.1

-- the tests in their order
abbrev pub refusal : ℕ → ℕ → List ℕ → Option BadFrame
refusal mtu calls bytes =
    let header = head_of bytes in
    first_failed (
    (has_length bytes, BadLength (length bytes))
    ∷ (slice_index bytes 14 == 0, BadField 14)
    ∷ (slice_index bytes 15 == 0, BadField 15)
    ∷ (nat_lt header.index header.count, BadIndex header.index header.count)
    ∷ (has_size mtu header, BadSize header.len)
    ∷ (nat_lt header.call calls, BadCall header.call) ∷ [])

-- the header, where there is no refusal
abbrev pub head_unless : Option BadFrame → List ℕ → Result Head BadFrame
head_unless None bytes = Ok (head_of bytes)
head_unless (Some refused) bytes = Err refused
