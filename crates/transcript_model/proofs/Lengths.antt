-- A line of a posted call is no longer than its segments ask for.
use Rattle.std.proofs.Common.{◌≡◌, ℕ, zero, suc, ◌+◌, ◌*◌, ◌^◌, ◌<◌, ◌≤◌, List, [], ◌∷◌, ◌++◌, length, arith}
use Rattle.std.proofs.Common.{length-append, lit<}
use Rattle.std.specs.Prelude.{codes}
use Rattle.std.specs.Fmt.{decimal}
use Rattle.std.specs.List.{flat_map}
use Rattle.std.proofs.lemmas.Fmt.{length-decimal-le}
use Rattle.flake_base.specs.declared.segment.Seg.{Seg}
use Rattle.transcript_model.specs.Lines.{posted, numbers_text, segment_text, reaped_text, stored_text, event_text}
use Rattle.transcript_model.specs.Lengths.{IsNumber, IsPlain, ArePlain, segment_limit, head_limit}

digits : (n : ℕ) → IsNumber n → length (decimal n) ≤ 20
digits n small = length-decimal-le 20 n (lit< tt) (wider n small) small where
  wider : (m : ℕ) → m < 2 ^ 64 → m < 10 ^ 20
  wider m below = omega (arith, below)

segment_short : (seg : Seg) → IsPlain seg → length (segment_text seg) ≤ segment_limit
segment_short seg plain =
    omega (
      arith,
      length-append (32 ∷ decimal seg.address) (58 ∷ decimal seg.len),
      digits seg.address plain.address,
      digits seg.len plain.len,
    )

segments_short : (segs : List Seg) → ArePlain segs → length (flat_map segment_text segs) ≤ segment_limit * length segs
segments_short [] plain = omega arith
segments_short (seg ∷ segs) plain =
    omega (
      arith,
      length-append (segment_text seg) (flat_map segment_text segs),
      segment_short seg plain.0,
      segments_short segs plain.1,
    )

stored_short : (segs : List Seg) → ArePlain segs → length (stored_text segs) ≤ 6 + segment_limit * length segs
stored_short [] plain = omega arith
stored_short (seg ∷ segs) plain =
    omega (
      arith,
      length-append (codes " store") (flat_map segment_text (seg ∷ segs)),
      segments_short
          (seg ∷ segs) plain,
    )

reaped_short : (n : ℕ) → IsNumber n → length (reaped_text n) ≤ 28
reaped_short zero small = omega arith
reaped_short (suc n) small = omega (arith, length-append (codes " reaped ") (decimal (suc n)), digits (suc n) small)

numbers_short : (i call : ℕ) → IsNumber i → IsNumber call → length (numbers_text (i ∷ call ∷ [])) ≤ 42
numbers_short i call small next =
    omega (
      arith,
      length-append (32 ∷ decimal i) ((32 ∷ decimal call) ++ []),
      length-append (32 ∷ decimal call) [],
      digits i small,
      digits call next,
    )

pub posted_short : (session call freed : ℕ) (segments fragments : List Seg) → IsNumber session → IsNumber call
    → IsNumber freed → ArePlain segments → ArePlain fragments
    → length (event_text session (posted call freed segments fragments)) ≤ head_limit
    + segment_limit * (length segments + length fragments)
posted_short session call freed segments fragments one two three plain plain' =
    let a = codes "call" in
    let b = numbers_text (session ∷ call ∷ []) in
    let c = reaped_text freed in
    let d = codes " send" in
    let e = flat_map segment_text segments in
    let f = stored_text fragments in
    let sum : length (a ++ b ++ c ++ d ++ e ++ f) ≡ length a + length b + length c + length d + length e + length f =
    omega (
      arith,
      length-append (a ++ b ++ c ++ d ++ e) f,
      length-append (a ++ b ++ c ++ d) e,
      length-append
          (a ++ b ++ c) d,
      length-append (a ++ b) c,
      length-append a b,
    ) in
    omega (
      arith,
      sum,
      numbers_short session call one two,
      reaped_short freed three,
      segments_short segments plain,
      stored_short fragments plain',
    )
