-- Sums over what all views have, where a view goes by its number.
use Rattle.std.proofs.Common.{◌≡◌, ℕ, zero, suc, ◌+◌, List, [], ◌∷◌, ◌++◌, length, set, sym, refl, ap, arith}
use mathlib.Core.Option.{some, some-injective, some-ne-none}
use lib.ListN.{get_elem?}
use Rattle.view_sums.specs.Total.{total}
use Rattle.view_sums.specs.Numbered.{by_number}
use Rattle.view_sums.proofs.Sums.{total-append}

module _ {V B : Type 0} (weight : B → ℕ) (part : ℕ → V → List B) where
  -- the view at a place beyond n has the place's number, counted from n
  pub total-by_number-set : (n : ℕ) (views : List V) (place : ℕ) (old new : V) → get_elem? views place ≡ some old
      → total weight (by_number part n (set views place new)) + total weight (part (n + place) old)
      ≡ total weight (by_number part n views) + total weight (part (n + place) new)
  total-by_number-set n [] place old new found = absurd (some-ne-none old (sym found))
  total-by_number-set n (v ∷ vs) zero old new found =
      let n_is : n + 0 ≡ n = omega arith in
      let old_is = ap (λ (k : ℕ). total weight (part k old)) n_is in
      let new_is = ap (λ (k : ℕ). total weight (part k new)) n_is in
      omega (
        arith,
        old_is,
        new_is,
        ap (λ (u : V). total weight (part n u)) (some-injective v old found),
        total-append
            weight (part n v) (by_number part (suc n) vs),
        total-append weight (part n new) (by_number part (suc n) vs),
      )
  total-by_number-set n (v ∷ vs) (suc place) old new found =
      let n_is : n + suc place ≡ suc n + place = omega arith in
      let old_is = ap (λ (k : ℕ). total weight (part k old)) n_is in
      let new_is = ap (λ (k : ℕ). total weight (part k new)) n_is in
      omega (
        arith,
        old_is,
        new_is,
        total-by_number-set (suc n) vs place old new found,
        total-append weight (part n v) (by_number part (suc n) vs),
        total-append weight (part n v) (by_number part (suc n) (set vs place new)),
      )

  pub total-by_number-append : (n : ℕ) (front back : List V) → total weight (by_number part n (front ++ back))
      ≡ total weight (by_number part n front) + total weight (by_number part (n + length front) back)
  total-by_number-append n [] back = let e : n + 0 ≡ n = omega arith in
      omega (arith, ap (λ (k : ℕ). total weight (by_number part k back)) e)
  total-by_number-append n (v ∷ vs) back =
      let e : n + suc (length vs) ≡ suc n + length vs = omega arith in
      omega (
        arith,
        ap (λ (k : ℕ). total weight (by_number part k back)) e,
        total-by_number-append (suc n) vs back,
        total-append weight (part n v) (by_number part (suc n) vs),
        total-append weight (part n v) (by_number part (suc n) (vs ++ back)),
      )

  -- where the numbers don't matter the sum is that over the views
  pub total-by_number : (g : V → ℕ) → ((k : ℕ) (v : V) → total weight (part k v) ≡ g v) → (n : ℕ) (views : List V)
      → total weight (by_number part n views) ≡ total g views
  total-by_number g blind n [] = refl
  total-by_number g blind n (v ∷ vs) =
      omega (
        arith,
        total-append weight (part n v) (by_number part (suc n) vs),
        blind n v,
        total-by_number g blind
            (suc n) vs,
      )
