-- The fragment of a number, and the pieces of a span, one after another and joined.
use Rattle.std.proofs.Common.{◌≡◌, ◌∙◌, sym, ap, refl, subst, inl, inr, ℕ, zero, suc, ◌+◌, ◌-◌, ◌*◌, ◌/◌, ◌%◌, ◌<◌, ◌≤◌}
use Rattle.std.proofs.Common.{min, List, [], ◌∷◌, ◌++◌, length, take, drop, Some, slice_get, arith, length-drop}
use Rattle.std.proofs.Math.Seq.{drop-nil, take-add}
use Rattle.std.specs.List.{flat_map, slice_index_or}
use Rattle.std.proofs.lemmas.Bool.{cases_lt}
use Rattle.std.proofs.lemmas.List.{drop-drop, drop-take, take-take}
use Rattle.flake_model.specs.Fragments.{cuts, fragments_of}
use Rattle.range_pick.specs.Pieces.{piece_at, touched, span_pieces_over, span_pieces, piece_bytes_in, IsPiece}
use Rattle.range_pick.specs.Pieces.{ArePieces}
use Rattle.range_pick.specs.declared.pieces.Piece.{Piece}
use Rattle.range_pick.specs.declared.spans.Span.{Span}

abbrev pub span_at : ℕ → ℕ → Span
span_at from len = record { from = from; len = len }

-- how many bytes of a span lie in the fragment where it begins
abbrev pub bytes_here : ℕ → ℕ → ℕ
bytes_here from len = min len (4096 - from % 4096)

touched_some : (from len : ℕ) → 0 < len → touched from len ≡ (from + len + 4095) / 4096
touched_some from zero some = absurd (omega arith)
touched_some from (suc len) some = refl

-- bytes that go beyond a fragment touch one more than the rest of them
touched_beyond : (from len : ℕ) → from < 4096 → 4096 - from < len → touched from len
    ≡ suc (touched 0 (len - (4096 - from)))
touched_beyond from len within beyond =
    touched_some from len (omega arith) ∙ (omega arith)
    ∙ ap suc (sym (touched_some 0 (len - (4096 - from)) (omega arith)))

touched_one : (from len : ℕ) → 0 < len → len ≤ 4096 - from → touched from len ≡ 1
touched_one from len some within = touched_some from len some ∙ omega arith

-- the first piece, and those of the rest
pub next_piece : (from len : ℕ) → 0 < len → span_pieces (span_at from len)
    ≡ piece_at (from / 4096) (from % 4096) (bytes_here from len)
    ∷ span_pieces (span_at (from + bytes_here from len) (len - bytes_here from len))
next_piece from len some =
    elim (cases_lt (4096 - from % 4096) len) [
      | inl beyond ↦
          (let here : bytes_here from len ≡ 4096 - from % 4096 = omega arith in
          let at : (from + (4096 - from % 4096)) / 4096 ≡ from / 4096 + 1 = omega arith in
          let behind : (from + (4096 - from % 4096)) % 4096 ≡ 0 = omega arith in
          let count = touched_beyond (from % 4096) len (omega arith) beyond in
          rw (count, here, at, behind) refl)
      | inr last ↦
          (let here : bytes_here from len ≡ len = omega arith in
          let none : len - len ≡ 0 = omega arith in
          let count = touched_one (from % 4096) len some last in
          rw (count, here, none) refl)
    ]

-- a piece less is left
pub fewer : (from len : ℕ) → 0 < len
    → length (span_pieces (span_at (from + bytes_here from len) (len - bytes_here from len))) < length
    (span_pieces (span_at from len))
fewer from len some = let all = ap length (next_piece from len some) in omega arith

-- how many pieces the first one leaves
left_over : (more from len : ℕ) → from < 4096 → suc more ≡ touched from len → more ≡ touched 0 (len - (4096 - from))
left_over more from zero within count = absurd (cc)
left_over more from (suc len) within count =
    elim (cases_lt (4096 - from) (suc len)) [
      | inl beyond ↦ (let both = count ∙ touched_beyond from (suc len) within beyond in omega arith)
      | inr last ↦ (let one = count ∙ touched_one from (suc len) (omega arith) last in
          let none : suc len - (4096 - from) ≡ 0 = omega arith in rw none (omega arith))
    ]

touched_has : (more from len : ℕ) → suc more ≡ touched from len → 0 < len
touched_has more from zero count = absurd (cc)
touched_has more from (suc len) count = omega arith

-- each lies in the next fragment, and isn't empty
each_piece : (count frag from len : ℕ) → from < 4096 → count ≡ touched from len → (number : ℕ) (piece : Piece)
    → slice_get (span_pieces_over count frag from len) number ≡ Some piece → IsPiece frag number piece
each_piece zero frag from len within count_is number piece found = absurd (cc)
each_piece (suc more) frag from len within count_is zero piece found =
    let some = touched_has more from len count_is in
    let is : piece_at frag from (min len (4096 - from)) ≡ piece = cc in
    let here : IsPiece frag 0 (piece_at frag from (min len (4096 - from))) =
    record { some = omega arith; in_turn = omega arith; within = omega arith } in
    subst (IsPiece frag 0) is here
each_piece (suc more) frag from len within count_is (suc number) piece found =
    let next = each_piece more (frag + 1) 0 (len - (4096 - from)) (omega arith)
    (left_over more from len within count_is) number piece found in
    record { some = next.some; in_turn = next.in_turn ∙ omega arith; within = next.within }

-- the fragment of a number
cut_at : (most frag : ℕ) (bytes : List ℕ) → length bytes ≤ most → slice_index_or (cuts most bytes) frag []
    ≡ take 4096 (drop (frag * 4096) bytes)
cut_at zero frag [] within = sym (ap (take 4096) (drop-nil (frag * 4096)))
cut_at zero frag (byte ∷ bytes) within = absurd (omega arith)
cut_at (suc most) frag [] within = sym (ap (take 4096) (drop-nil (frag * 4096)))
cut_at (suc most) zero (byte ∷ bytes) within = refl
cut_at (suc most) (suc frag) (byte ∷ bytes) within =
    cut_at most frag (drop 4096 (byte ∷ bytes)) (omega (arith, length-drop 4096 (byte ∷ bytes)))
    ∙ ap (take 4096) (drop-drop (frag * 4096) 4096 (byte ∷ bytes) ∙ ap (λ n. drop n (byte ∷ bytes)) (omega arith))

fragment_at : (bytes : List ℕ) (frag : ℕ) → slice_index_or (fragments_of bytes) frag []
    ≡ take 4096 (drop (frag * 4096) bytes)
fragment_at bytes frag = cut_at (length bytes) frag bytes (omega arith)

-- bytes of a fragment, in the value
in_value : (value : List ℕ) (frag from len : ℕ) → from < 4096
    → piece_bytes_in value (piece_at frag from (min len (4096 - from))) ≡ take (min len (4096 - from))
    (drop (frag * 4096 + from) value)
in_value value frag from len within =
    let here = min len (4096 - from) in
    let whole : 4096 ≡ from + (4096 - from) = omega arith in
    let behind = drop (frag * 4096) value in
    let part : take 4096 behind ≡ take (from + (4096 - from)) behind = ap (λ n. take n behind) whole in
    ap (λ fragment. take here (drop from fragment)) (fragment_at value frag ∙ part)
    ∙ ap (take here) (drop-take from (4096 - from) behind)
    ∙ take-take here (4096 - from) (drop from behind) (omega arith)
    ∙ ap (take here) (drop-drop from (frag * 4096) value)

-- what the first piece leaves begins the next fragment
left_bytes : (value : List ℕ) (frag from len : ℕ) → from < 4096
    → take (len - (4096 - from)) (drop ((frag + 1) * 4096 + 0) value) ≡ take (len - (4096 - from))
    (drop (min len (4096 - from)) (drop (frag * 4096 + from) value))
left_bytes value frag from len within =
    let left = len - (4096 - from) in
    elim (cases_lt (4096 - from) len) [
      | inl beyond ↦ (let at : (frag + 1) * 4096 + 0 ≡ frag * 4096 + from + min len (4096 - from) = omega arith in
          ap (take left) (ap (λ n. drop n value) at
          ∙ sym (drop-drop (min len (4096 - from)) (frag * 4096 + from) value)))
      | inr last ↦ (let none : len - (4096 - from) ≡ 0 = omega arith in rw none refl)
    ]

-- joined they are the bytes of the span
joined : (count frag from len : ℕ) → from < 4096 → count ≡ touched from len → (value : List ℕ)
    → flat_map (piece_bytes_in value) (span_pieces_over count frag from len)
    ≡ take len (drop (frag * 4096 + from) value)
joined zero frag from zero within count_is value = refl
joined zero frag from (suc len) within count_is value =
    absurd (omega (arith, touched_some from (suc len) (omega arith)))
joined (suc more) frag from len within count_is value =
    let here = min len (4096 - from) in
    let left = len - (4096 - from) in
    let at = frag * 4096 + from in
    let rest = joined more (frag + 1) 0 left (omega arith) (left_over more from len within count_is) value in
    let whole : len ≡ here + left = omega arith in
    ap (λ bytes. bytes ++ flat_map (piece_bytes_in value) (span_pieces_over more (frag + 1) 0 left))
    (in_value value frag from len within)
    ∙ ap (λ bytes. take here (drop at value) ++ bytes) (rest ∙ left_bytes value frag from len within)
    ∙ sym (take-add here left (drop at value))
    ∙ ap (λ n. take n (drop at value)) (sym whole)

pub are_pieces : (span : Span) → ArePieces span (span_pieces span)
are_pieces span =
    let offset = span.from % 4096 in
    let frag = span.from / 4096 in
    let at : frag * 4096 + offset ≡ span.from = omega arith in
    record {
      each = each_piece (touched offset span.len) frag offset span.len (omega arith) refl;
      joined = λ value. joined (touched offset span.len) frag offset span.len (omega arith) refl value
          ∙ ap (λ n. take span.len (drop n value)) at;
    }
