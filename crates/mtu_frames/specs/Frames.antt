-- The frames of a reply: its text, cut after so many bytes, with a header before each cut.
use Rattle.std.specs.Prelude.{ℕ, zero, suc, ◌+◌, ◌-◌, List, [], ◌∷◌, ◌++◌, length, take, drop}
use Rattle.std.specs.Int.{w16, w32, to_le_bytes}
use Rattle.std.specs.List.{flat_map}

-- a frame: where it belongs, how many frames its reply has, and its bytes of the reply
pub record MtuFrame : Type 0 where
  pub call : ℕ
  pub index : ℕ
  pub count : ℕ
  pub bytes : List ℕ

-- call, index, number of frames and number of bytes, each with its low byte first, and two bytes 0
abbrev pub header_bytes : ℕ → ℕ → ℕ → ℕ → List ℕ
header_bytes call index count len =
    to_le_bytes w32 call ++ (to_le_bytes w32 index ++ (to_le_bytes w32 count ++ (to_le_bytes w16 len ++ (0 ∷ 0 ∷ []))))

-- a frame as it is sent
abbrev pub mtu_frame_bytes : MtuFrame → List ℕ
mtu_frame_bytes frame = header_bytes frame.call frame.index frame.count (length frame.bytes) ++ frame.bytes

-- bytes cut after each `size`, by at most so many cuts
abbrev pub cuts_from : ℕ → ℕ → List ℕ → List (List ℕ)
cuts_from size zero bytes = []
cuts_from size (suc more) [] = []
cuts_from size (suc more) (byte ∷ bytes) = take size (byte ∷ bytes) ∷ cuts_from size more (drop size (byte ∷ bytes))

-- the cuts of a text for frames of at most `mtu` bytes; the last may be shorter, and none is empty
abbrev pub cuts_of : ℕ → List ℕ → List (List ℕ)
cuts_of mtu text = cuts_from (mtu - 16) (length text) text

-- cuts as frames, numbered from an index on
abbrev pub frames_from : ℕ → ℕ → ℕ → List (List ℕ) → List MtuFrame
frames_from call count index [] = []
frames_from call count index (bytes ∷ cuts) =
    record { call = call; index = index; count = count; bytes = bytes } ∷ frames_from call count (index + 1) cuts

-- the frames of a text
abbrev pub frames_of : List ℕ → ℕ → ℕ → List MtuFrame
frames_of text call mtu = frames_from call (length (cuts_of mtu text)) 0 (cuts_of mtu text)

-- and as they are sent
abbrev pub framed : List ℕ → ℕ → ℕ → List ℕ
framed text call mtu = flat_map mtu_frame_bytes (frames_of text call mtu)
