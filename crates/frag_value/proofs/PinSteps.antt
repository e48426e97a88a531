-- One fragment more is pinned.
use Rattle.std.proofs.Common.{◌≡◌, ℕ, zero, suc, ◌+◌, ◌-◌, List, [], ◌∷◌, ◌++◌, length, take, Some, refl, ap, sym}
use Rattle.std.proofs.Common.{◌∙◌, add-one, append_assoc, length-append, arith}
use Rattle.std.specs.List.{slice_get}
use Rattle.pin_core.specs.Holding.{Holding}
use Rattle.pinned_pool.specs.Moves.{front_of, pinned_hold, taking}
use Rattle.pinned_pool.specs.Views.{view}
use Rattle.pinned_pool.specs.declared.view.View.{View}
use Rattle.frag_value.specs.Values.{Frags, frag_bytes, value_bytes}
use Rattle.frag_value.specs.Values.{unmarked_view}
use Rattle.frag_value.proofs.Unmarked.{same_front}
use Rattle.frag_value.specs.Pins.{pin_holds, pinning}

take_next : {A : Type 0} (v : List A) (i : ℕ) (p : A) → slice_get v i ≡ Some p → take (suc i) v ≡ take i v ++ p ∷ []
take_next [] i p e = absurd (cc)
take_next (q ∷ v) zero p e = let yes : q ≡ p = cc in ap (λ x. x ∷ []) yes
take_next (q ∷ v) (suc i) p e = ap (λ l. q ∷ l) (take_next v i p e)

pub take_one_more : {A : Type 0} (v : List A) (i : ℕ) (p : A) → slice_get v i ≡ Some p
    → take (i + 1) v ≡ take i v ++ p ∷ []
take_one_more v i p e = rw add-one (take_next v i p e)

pub pins-append : (hs : List Holding) (v w : Frags) → pin_holds hs (v ++ w) ≡ pin_holds hs v ++ pin_holds hs w
pins-append hs [] w = refl
pins-append hs (p ∷ v) w = ap (λ l. pinned_hold p.0 (front_of p.0 hs) ∷ l) (pins-append hs v w)

pub pins_more : (hs : List Holding) (v : Frags) (i : ℕ) (p : ℕ × ℕ) → slice_get v i ≡ Some p
    → pin_holds hs (take (i + 1) v) ≡ pin_holds hs (take i v) ++ pinned_hold p.0 (front_of p.0 hs) ∷ []
pins_more hs v i p e = ap (pin_holds hs) (take_one_more v i p e) ∙ pins-append hs (take i v) (p ∷ [])

pub pinning_more : (pins : List Holding) (h : Holding) (v : View)
    → taking h (pinning pins v) ≡ pinning (pins ++ h ∷ []) v
pinning_more pins h v =
    let holds = append_assoc v.holds pins (h ∷ []) in
    let credits : v.credits - length pins - 1 ≡ v.credits - length (pins ++ h ∷ []) = omega (
      arith,
      length-append pins (h ∷ []),
    ) in
    λ i. view (holds i) (credits i) v.claims v.looks v.returns v.lasts

pub pinning_none : (v : View) → v ≡ pinning [] v
pinning_none v =
    let holds : v.holds ≡ v.holds ++ [] = simp (append-nil-here v.holds) in
    let credits : v.credits ≡ v.credits - 0 = omega arith in
    λ i. view (holds i) (credits i) v.claims v.looks v.returns v.lasts where
      append-nil-here : (hs : List Holding) → hs ++ [] ≡ hs
      append-nil-here [] = refl
      append-nil-here (h ∷ hs) = ap (λ l. h ∷ l) (append-nil-here hs)

pub length-pins : (hs : List Holding) (v : Frags) → length (pin_holds hs v) ≡ length v
length-pins hs [] = refl
length-pins hs (p ∷ v) = ap suc (length-pins hs v)

bytes-append : (hs : List Holding) (v : Frags) (p : ℕ × ℕ) → value_bytes hs (v ++ p ∷ []) ≡ value_bytes hs v ++
    frag_bytes hs p
bytes-append hs [] p = append-nil-bytes (frag_bytes hs p) where
  append-nil-bytes : (xs : List ℕ) → xs ++ [] ≡ xs
  append-nil-bytes [] = refl
  append-nil-bytes (x ∷ xs) = ap (λ l. x ∷ l) (append-nil-bytes xs)
bytes-append hs (q ∷ v) p = ap (λ l. frag_bytes hs q ++ l) (bytes-append hs v p)
    ∙ sym (append_assoc (frag_bytes hs q) (value_bytes hs v) (frag_bytes hs p))

pub bytes_more : (hs : List Holding) (v : Frags) (i : ℕ) (p : ℕ × ℕ) → slice_get v i ≡ Some p
    → value_bytes hs (take (i + 1) v) ≡ value_bytes hs (take i v) ++ frag_bytes hs p
bytes_more hs v i p e = ap (value_bytes hs) (take_one_more v i p e) ∙ bytes-append hs (take i v) p

-- holds that are taken in two steps
pub pinning_both : (pins more : List Holding) (v : View) → pinning more (pinning pins v) ≡ pinning (pins ++ more) v
pinning_both pins more v =
    let holds = append_assoc v.holds pins more in
    let credits : v.credits - length pins - length more ≡ v.credits - length (pins ++ more) =
    omega (arith, length-append pins more) in
    λ i. view (holds i) (credits i) v.claims v.looks v.returns v.lasts

-- an owner whose holds became shared gives the same
pub same_pins : (old now : View) (v : Frags) → unmarked_view now ≡ unmarked_view old
    → pin_holds now.holds v ≡ pin_holds old.holds v
same_pins old now [] same = refl
same_pins old now (p ∷ v) same =
    λ i. pinned_hold p.0 (same_front p.0 old now same i) ∷ same_pins old now v same i
