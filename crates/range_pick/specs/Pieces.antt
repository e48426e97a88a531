-- The parts of a value's fragments that bytes of it lie in.
use Rattle.std.specs.Prelude.{◌≡◌, ℕ, zero, suc, ◌+◌, ◌-◌, ◌/◌, ◌%◌, ◌<◌, ◌≤◌, min}
use Rattle.std.specs.Prelude.{List, [], ◌∷◌, Some, take, drop, slice_get, slice_index_or}
use Rattle.std.specs.List.{flat_map}
use Rattle.flake_model.specs.Fragments.{fragment_limit, fragments_of}
use Rattle.range_pick.specs.declared.pieces.Piece.{Piece}
use Rattle.range_pick.specs.declared.spans.Span.{Span}

abbrev pub piece_at : ℕ → ℕ → ℕ → Piece
piece_at frag from len = record { frag = frag; from = from; len = len }

-- so many fragments have a byte of those that begin at a place of the first
abbrev pub touched : ℕ → ℕ → ℕ
touched from zero = 0
touched from (suc more) = (from + suc more + 4095) / fragment_limit

-- the pieces of bytes in so many fragments, from this place of this fragment on: each but the last goes to its
-- fragment's end
abbrev pub span_pieces_over : ℕ → ℕ → ℕ → ℕ → List Piece
span_pieces_over zero frag from len = []
span_pieces_over (suc more) frag from len =
    let most = fragment_limit - from in
    piece_at frag from (min len most) ∷ span_pieces_over more (frag + 1) 0 (len - most)

abbrev pub span_pieces : Span → List Piece
span_pieces span =
    let from = span.from % fragment_limit in
    span_pieces_over (touched from span.len) (span.from / fragment_limit) from span.len

-- a piece's bytes, in the fragment of its number
abbrev pub piece_bytes_in : List ℕ → Piece → List ℕ
piece_bytes_in value piece = take piece.len (drop piece.from (slice_index_or (fragments_of value) piece.frag []))

-- a piece of the fragments that follow one another from this one
pub record IsPiece (frag number : ℕ) (piece : Piece) : Type 0 where
  pub some : 0 < piece.len
  pub in_turn : piece.frag ≡ frag + number
  pub within : piece.from + piece.len ≤ fragment_limit

-- The pieces of a span lie in the fragments that it touches, one in each, in their order. None is empty, and joined
-- they are the span's bytes, whichever value it is one of.
pub record ArePieces (span : Span) (pieces : List Piece) : Type 0 where
  pub each : (number : ℕ) (piece : Piece) → slice_get pieces number ≡ Some piece
      → IsPiece (span.from / fragment_limit) number piece
  pub joined : (value : List ℕ) → flat_map (piece_bytes_in value) pieces ≡ take span.len (drop span.from value)
