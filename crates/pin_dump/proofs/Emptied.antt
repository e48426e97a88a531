-- A seat that gives all its holds back, and how long a dump's text is.
use Rattle.std.proofs.Common.{◌≡◌, ℕ, ◌+◌, ◌≤◌, List, [], ◌∷◌, ◌++◌, Bool, true, false, cond, eqb, length, codes}
use Rattle.std.proofs.Common.{refl, sym, ap, length-append, arith}
use Rattle.std.specs.Fmt.{decimal}
use Rattle.std.proofs.lemmas.List.{nil_from_length}
use Rattle.view_sums.specs.Total.{total, Each}
use Rattle.view_sums.proofs.Eachs.{each-front, each-back}
use Rattle.pin_core.specs.Holding.{Holding}
use Rattle.pinned_pool.specs.Moves.{HasHolds, hold_key, holds_for, meant_count, times_asked, without_keys}
use Rattle.pinned_pool.specs.declared.view.View.{View}
use Rattle.pinned_pool.proofs.Keys.{total-left_by, taken_by-keys}
use Rattle.flake_model.specs.Resp.{crlf}
use Rattle.dump_model.specs.Dump.{set_text, pairs_text}
use Rattle.frag_value.specs.Values.{Frags, IsFilled, size_of, uses, value_bytes}
use Rattle.frag_value.proofs.Cuts.{length-bytes-value}
use Rattle.frag_value.proofs.Ends.{length-map}
use Rattle.frag_value.specs.Pins.{KeyFrags, all_frags, pairs_shown, pin_key, pin_keys}
use Rattle.frag_value.proofs.Returned.{asked-pins}
use Rattle.pin_dump.specs.Dumps.{GivesHolds, HoldsFor, IsEmptied, pair_length, pairs_length}
use Rattle.pin_dump.proofs.Texts.{head_of, text_is}

loose_bit : (t : Bool) → (let n : ℕ = cond (cond t false false) 1 0 in n ≡ 0)
loose_bit true = refl
loose_bit false = refl

asked-loose : (c : ℕ) (v : Frags) → times_asked (record { buffer = c; pinned = false }) (pin_keys v) ≡ 0
asked-loose c [] = refl
asked-loose c (p ∷ v) = omega (arith, loose_bit (eqb p.0 c), asked-loose c v)

has_pins : (v : Frags) (hs : List Holding) → ((c : ℕ) → uses c v ≤ meant_count (pin_key c) hs)
    → HasHolds (pin_keys v) hs
has_pins v hs has = λ j. either_way j.buffer j.pinned where
  either_way : (c : ℕ) (t : Bool) → times_asked (record { buffer = c; pinned = t }) (pin_keys v)
      ≤ meant_count (record { buffer = c; pinned = t }) hs
  either_way c true = omega (arith, asked-pins c v, has c)
  either_way c false = omega (arith, asked-loose c v)

ones : (hs : List Holding) → total (λ (h : Holding). 1) hs ≡ length hs
ones [] = refl
ones (h ∷ hs) = omega (arith, ones hs)

pub fewer : (v : Frags) (hs : List Holding) → ((c : ℕ) → uses c v ≤ meant_count (pin_key c) hs)
    → length (without_keys (pin_keys v) hs) + length v ≡ length hs
fewer v hs has =
    let keys = pin_keys v in
    omega (
      arith,
      total-left_by (λ (h : Holding). 1) keys hs,
      ones (holds_for keys hs),
      ones (without_keys keys hs),
      ones hs,
      length-map hold_key (holds_for keys hs),
      ap length (taken_by-keys keys hs (has_pins v hs has)),
      length-map (λ (p : ℕ × ℕ). pin_key p.0) v,
    )

pub is_emptied : (v : Frags) (old new : View) → HoldsFor old.holds v → GivesHolds v old new → IsEmptied old new
is_emptied v old new holds gives = record {
  holds = nil_from_length new.holds
      (omega (arith, ap length gives.holds, fewer v old.holds holds.held, holds.count));
  credits = omega (arith, gives.credits, holds.count);
  claims = gives.claims;
  looks = gives.looks;
  returns = omega (arith, gives.returns, holds.count);
  lasts = gives.lasts;
}

-- the text's length
first_length : length (codes "*3\r\n$3\r\nSET\r\n") ≡ 13
first_length = refl

head-length : (n : ℕ) → length (head_of n) ≡ length (decimal n) + 3
head-length n = omega (arith, length-append (36 ∷ decimal n) crlf)

set-length : (hs : List Holding) (p : KeyFrags) → Each (IsFilled hs) p.1
    → length (set_text (p.0, value_bytes hs p.1)) ≡ pair_length p
set-length hs p filled =
    let key = p.0 in
    let value = value_bytes hs p.1 in
    let n = size_of p.1 in
    let size : n ≡ length value = sym (length-bytes-value hs p.1 filled) in
    let start = codes "*3\r\n$3\r\nSET\r\n" in
    let a = start ++ head_of (length key) in
    let b = a ++ key in
    let c = b ++ crlf in
    let d = c ++ head_of n in
    let e = d ++ value in
    omega (
      arith,
      ap length (text_is key value (length key) n refl size),
      length-append e crlf,
      length-append d value,
      length-append c (head_of n),
      length-append b crlf,
      length-append a key,
      length-append start (head_of (length key)),
      first_length,
      head-length (length key),
      head-length n,
      size,
    )

pub text-length : (hs : List Holding) (pairs : List KeyFrags) → Each (IsFilled hs) (all_frags pairs)
    → length (pairs_text (pairs_shown hs pairs)) ≡ pairs_length pairs
text-length hs [] filled = refl
text-length hs (p ∷ pairs) filled =
    omega (
      arith,
      length-append (set_text (p.0, value_bytes hs p.1)) (pairs_text (pairs_shown hs pairs)),
      set-length hs p (each-front (IsFilled hs) p.1 (all_frags pairs) filled),
      text-length hs pairs (each-back (IsFilled hs) p.1 (all_frags pairs) filled),
    )
