-- Segments, one after another.
use Rattle.std.proofs.Common.{◌≡◌, ℕ, zero, suc, ◌+◌, List, [], ◌∷◌, ◌++◌, take, true, false, ap, ◌∙◌, arith}
use Rattle.std.specs.Prelude.{slice_get, Some}

pub no_way : false ≡ true → ⊥
no_way e = cc

pub taken_more : {A : Type 0} (xs : List A) (i k : ℕ) (x : A) → k ≡ i + 1 → slice_get xs i ≡ Some x
    → take k xs ≡ take i xs ++ x ∷ []
taken_more [] i k x e found = cc
taken_more (y ∷ xs) i zero x e found = absurd (omega arith)
taken_more (y ∷ xs) zero (suc k) x e found =
    let none : k ≡ 0 = omega arith in
    let same : y ≡ x = cc in
    ap (λ n. y ∷ take n xs) none ∙ ap (λ z. z ∷ []) same
taken_more (y ∷ xs) (suc i) (suc k) x e found = ap (λ l. y ∷ l) (taken_more xs i k x (omega arith) found)
