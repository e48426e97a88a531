-- Facts of each item of a list.
use Rattle.std.proofs.Common.{◌≡◌, ℕ, zero, suc, List, [], ◌∷◌, ◌++◌, map, set, refl, sym, subst}
use mathlib.Core.Option.{some, some-injective, some-ne-none}
use lib.ListN.{get_elem?}
use Rattle.view_sums.specs.Total.{Each}

module _ {A : Type 0} where
  pub each-get_elem? : (P : A → Type 0) (xs : List A) (k : ℕ) (x : A) → Each P xs → get_elem? xs k ≡ some x → P x
  each-get_elem? P [] k x each found = absurd (some-ne-none x (sym found))
  each-get_elem? P (y ∷ ys) zero x each found = subst P (some-injective y x found) each.0
  each-get_elem? P (y ∷ ys) (suc k) x each found = each-get_elem? P ys k x each.1 found

  pub each_from : (P : A → Type 0) (xs : List A) → ((k : ℕ) (x : A) → get_elem? xs k ≡ some x → P x) → Each P xs
  each_from P [] all = tt
  each_from P (x ∷ xs) all = (all 0 x refl, each_from P xs (λ k y e. all (suc k) y e))

  pub each-imp : (P Q : A → Type 0) → ((x : A) → P x → Q x) → (xs : List A) → Each P xs → Each Q xs
  each-imp P Q imp [] each = tt
  each-imp P Q imp (x ∷ xs) each = (imp x each.0, each-imp P Q imp xs each.1)

  pub each-append : (P : A → Type 0) (xs ys : List A) → Each P xs → Each P ys → Each P (xs ++ ys)
  each-append P [] ys h k = k
  each-append P (x ∷ xs) ys h k = (h.0, each-append P xs ys h.1 k)

  pub each-front : (P : A → Type 0) (xs ys : List A) → Each P (xs ++ ys) → Each P xs
  each-front P [] ys h = tt
  each-front P (x ∷ xs) ys h = (h.0, each-front P xs ys h.1)

  pub each-back : (P : A → Type 0) (xs ys : List A) → Each P (xs ++ ys) → Each P ys
  each-back P [] ys h = h
  each-back P (x ∷ xs) ys h = each-back P xs ys h.1

  pub each-set : (P : A → Type 0) (xs : List A) (k : ℕ) (x : A) → P x → Each P xs → Each P (set xs k x)
  each-set P [] k x new each = tt
  each-set P (y ∷ ys) zero x new each = (new, each.1)
  each-set P (y ∷ ys) (suc k) x new each = (each.0, each-set P ys k x new each.1)

  pub each-map : {B : Type 0} (P : B → Type 0) (g : A → B) (xs : List A) → Each (λ x. P (g x)) xs → Each P (map g xs)
  each-map P g [] each = tt
  each-map P g (x ∷ xs) each = (each.0, each-map P g xs each.1)
