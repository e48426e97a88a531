-- What a device gathers at the segments of a layout.
use Rattle.std.specs.Prelude.{◌≡◌, ℕ, ◌+◌, ◌%◌, ◌≤◌, nat_le, if◌then◌else◌, List, [], length, take, drop, ⊤}
use Rattle.std.specs.List.{flat_map}
use Rattle.flake_base.specs.declared.segment.Seg.{Seg}
use Rattle.reply_layout.specs.Pieces.{Piece, plain, stored, piece_bytes}
use Rattle.reply_layout.specs.Layout.{staging_limit, copied_address}

-- the bytes that lie at each address, so many of them
abbrev pub Reading : Type 0
Reading = ℕ → ℕ → List ℕ

-- the bytes at segments, joined
abbrev pub read_all : Reading → List Seg → List ℕ
read_all read segments = flat_map (λ (seg : Seg). read seg.address seg.len) segments

-- the bytes of a piece that are copied
abbrev pub copied_from : ℕ → Piece → List ℕ
copied_from threshold (plain bytes) = bytes
copied_from threshold (stored address bytes) = if nat_le threshold (length bytes) then [] else bytes

-- the bytes that are copied, in the order of the text
abbrev pub copied_text : ℕ → List Piece → List ℕ
copied_text threshold pieces = flat_map (copied_from threshold) pieces

-- the bytes of pieces, joined
abbrev pub text_of_pieces : List Piece → List ℕ
text_of_pieces pieces = flat_map piece_bytes pieces

-- the staging buffers have these bytes
pub record IsStaged (read : Reading) (stage : List ℕ) (text : List ℕ) : Type 0 where
  pub at : (k n : ℕ) → k % staging_limit + n ≤ staging_limit → k + n ≤ length text
      → read (copied_address stage k) n ≡ take n (drop k text)

-- each stored piece lies at its address
abbrev pub IsThere : Reading → Piece → Type 0
IsThere read (plain bytes) = ⊤
IsThere read (stored address bytes) = read address (length bytes) ≡ bytes
