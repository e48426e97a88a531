-- Lists with one item more, and with one written.
use Rattle.std.proofs.Common.{◌≡◌, ◌≢◌, ℕ, ◌+◌, ◌<◌, ◌⊎◌, ⊎_elim, inl, inr, zero, suc, List, [], ◌∷◌, ◌++◌, Some}
use Rattle.std.proofs.Common.{None, length, map, set, take, slice_get, arith, refl, ap, sym, ◌∙◌, subst}
use Rattle.std.proofs.lemmas.List.{map-append}

pub in_front : {A : Type 0} (front more : List A) (k : ℕ) (x : A) → slice_get front k ≡ Some x
    → slice_get (front ++ more) k ≡ Some x
in_front [] more k x is = absurd (cc)
in_front (y ∷ front) more zero x is = is
in_front (y ∷ front) more (suc k) x is = in_front front more k x is

pub at_last : {A : Type 0} (xs : List A) (x : A) → slice_get (xs ++ x ∷ []) (length xs) ≡ Some x
at_last [] x = refl
at_last (y ∷ xs) x = at_last xs x

pub of_append : {A : Type 0} (xs : List A) (x y : A) (k : ℕ) → slice_get (xs ++ x ∷ []) k ≡ Some y
    → (slice_get xs k ≡ Some y) ⊎ ((k ≡ length xs) × (y ≡ x))
of_append [] x y zero is = let same : x ≡ y = cc in inr (refl, sym same)
of_append [] x y (suc k) is = absurd (cc (is))
of_append (first ∷ xs) x y zero is = inl is
of_append (first ∷ xs) x y (suc k) is = ⊎_elim (λ here. inl here) (λ last. inr (ap suc last.0, last.1))
    (of_append xs x y k is)

-- two lists that have the same at each place
pub same_lists : {A : Type 0} (xs ys : List A) → ((k : ℕ) → slice_get xs k ≡ slice_get ys k) → xs ≡ ys
same_lists [] [] same = refl
same_lists [] (y ∷ ys) same = absurd (cc (same 0))
same_lists (x ∷ xs) [] same = absurd (cc (same 0))
same_lists (x ∷ xs) (y ∷ ys) same =
    let first : x ≡ y = let here : Some x ≡ Some y = same 0 in cc (here) in
    let rest = same_lists xs ys (λ k. same (suc k)) in
    λ i. first i ∷ rest i

pub take_next : {A : Type 0} (xs : List A) (k : ℕ) (x : A) → slice_get xs k ≡ Some x → take (k + 1) xs ≡ take k xs
    ++ x ∷ []
take_next [] k x is = absurd (cc (is))
take_next (y ∷ xs) zero x is = let same : y ≡ x = cc in ap (λ z. z ∷ []) same
take_next (y ∷ xs) (suc k) x is =
    let next : suc k + 1 ≡ suc (k + 1) = omega arith in
    ap (λ n. take n (y ∷ xs)) next ∙ ap (λ rest. y ∷ rest) (take_next xs k x is)

-- what a list has at a place after a write
pub read_set : {X : Type 0} (xs : List X) (i j : ℕ) (y found : X) → slice_get (set xs i y) j ≡ Some found
    → ((j ≡ i) × (found ≡ y)) ⊎ ((j ≢ i) × (slice_get xs j ≡ Some found))
read_set [] i j y found is = absurd (cc (is))
read_set (x ∷ xs) zero zero y found is = inl (refl, cc)
read_set (x ∷ xs) zero (suc j) y found is = inr ((λ same. omega arith), is)
read_set (x ∷ xs) (suc i) zero y found is = inr ((λ same. omega arith), is)
read_set (x ∷ xs) (suc i) (suc j) y found is =
    ⊎_elim (λ here. inl (ap suc here.0, here.1)) (λ there. inr ((λ same. there.0 (omega arith)), there.1))
    (read_set xs i j y found is)
