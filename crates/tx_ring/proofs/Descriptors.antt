-- The two words of a descriptor are the halves of its bytes, and a frame has one descriptor for each segment.
use Rattle.std.proofs.Common.{◌≡◌, ℕ, ◌+◌, ◌*◌, ◌^◌, ◌/◌, ◌%◌, ◌<◌, ◌≤◌, List, [], ◌∷◌, map, refl, ◌++◌, Bool, true}
use Rattle.std.proofs.Common.{false, ap, arith}
use Rattle.std.specs.Int.{w64, to_le_bytes}
use Rattle.tx_descriptor.specs.Bytes.{descriptor_bytes}
use Rattle.flake_base.specs.declared.segment.Seg.{Seg}
use Rattle.tx_ring.specs.Words.{IsShortSegment, length_word, EachElement}
use Rattle.tx_ring.specs.Rows.{row_bytes, row_segment, frame_rows, frame_bytes}

eight : (n len c d : ℕ) → len ≤ 4096 → c < 256 → d < 256 → n ≡ len + c * 16777216 + d * 4294967296 → to_le_bytes w64 n
    ≡ len % 256 ∷ len / 256 % 256 ∷ 0 ∷ c ∷ d ∷ 0 ∷ 0 ∷ 0 ∷ []
eight n len c d h low small e =
    let e0 : n % 256 ≡ len % 256 = omega arith in
    let e1 : n / 256 % 256 ≡ len / 256 % 256 = omega arith in
    let e2 : n / 65536 % 256 ≡ 0 = omega arith in
    let e3 : n / 16777216 % 256 ≡ c = omega arith in
    let e4 : n / 4294967296 % 256 ≡ d = omega arith in
    let e5 : n / 1099511627776 % 256 ≡ 0 = omega arith in
    let e6 : n / 281474976710656 % 256 ≡ 0 = omega arith in
    let e7 : n / 72057594037927936 % 256 ≡ 0 = omega arith in
    λ k. e0 k ∷ e1 k ∷ e2 k ∷ e3 k ∷ e4 k ∷ e5 k ∷ e6 k ∷ e7 k ∷ []

pub halves : (a len : ℕ) (last done : Bool) → len ≤ 4096 → to_le_bytes w64 a
    ++ to_le_bytes w64 (length_word len last done)
    ≡ descriptor_bytes (record { address = a; len = len; eop = last; rs = last; dd = done })
halves a len true true h = ap (λ t. to_le_bytes w64 a ++ t)
    (eight (length_word len true true) len 9 1 h (omega arith) (omega arith) (omega arith))
halves a len true false h = ap (λ t. to_le_bytes w64 a ++ t)
    (eight (length_word len true false) len 9 0 h (omega arith) (omega arith) (omega arith))
halves a len false true h = ap (λ t. to_le_bytes w64 a ++ t)
    (eight (length_word len false true) len 0 1 h (omega arith) (omega arith) (omega arith))
halves a len false false h = ap (λ t. to_le_bytes w64 a ++ t)
    (eight (length_word len false false) len 0 0 h (omega arith) (omega arith) (omega arith))

-- so a frame's words are the bytes of its descriptors
pub bytes-of-rows : (ss : List Seg) → EachElement IsShortSegment ss → map row_bytes (frame_rows ss) ≡ frame_bytes ss
bytes-of-rows [] a = refl
bytes-of-rows (s ∷ []) a = λ k. halves s.address s.len true false a.0.1 k ∷ []
bytes-of-rows (s ∷ t ∷ ss) a = λ k. halves s.address s.len false false a.0.1 k ∷ bytes-of-rows (t ∷ ss) a.1 k

len-of : (len : ℕ) (last : Bool) → len ≤ 4096 → length_word len last false % 2 ^ 16 ≡ len
len-of len true h = omega arith
len-of len false h = omega arith

-- and its segments
pub segments-of-rows : (ss : List Seg) → EachElement IsShortSegment ss → map row_segment (frame_rows ss) ≡ ss
segments-of-rows [] a = refl
segments-of-rows (s ∷ []) a = λ k. (record { address = s.address; len = len-of s.len true a.0.1 k }) ∷ []
segments-of-rows (s ∷ t ∷ ss) a = λ k. (record { address = s.address; len = len-of s.len false a.0.1 k })
    ∷ segments-of-rows (t ∷ ss) a.1 k
