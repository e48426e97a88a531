-- Lists of which one item was replaced, as a map of them shows.
use Rattle.std.proofs.Common.{◌≡◌, ◌≢◌, ◌<◌, ℕ, zero, suc, List, [], ◌∷◌, Some, length, map, slice_get, slice_set}
use Rattle.std.proofs.Common.{get_or, arith, refl, ap}

module _ {A B : Type 0} (f : A → B) where
  pub other_places : (xs : List A) (k : ℕ) (y : A) (j : ℕ) → j ≢ k → slice_get (map f (slice_set xs k y)) j
      ≡ slice_get (map f xs) j
  other_places [] k y j other = refl
  other_places (x ∷ xs) zero y zero other = absurd (other refl)
  other_places (x ∷ xs) zero y (suc j) other = refl
  other_places (x ∷ xs) (suc k) y zero other = refl
  other_places (x ∷ xs) (suc k) y (suc j) other = other_places xs k y j (λ is. other (ap suc is))

  pub shown_at : (xs : List A) (k : ℕ) (d : A) → k < length xs → slice_get (map f xs) k ≡ Some (f (get_or xs k d))
  shown_at [] k d within = absurd (omega (arith, within))
  shown_at (x ∷ xs) zero d within = refl
  shown_at (x ∷ xs) (suc k) d within = shown_at xs k d (omega (arith, within))

  pub shown_new : (xs : List A) (k : ℕ) (y : A) → k < length xs → slice_get (map f (slice_set xs k y)) k ≡ Some (f y)
  shown_new [] k y within = absurd (omega (arith, within))
  shown_new (x ∷ xs) zero y within = refl
  shown_new (x ∷ xs) (suc k) y within = shown_new xs k y (omega (arith, within))
