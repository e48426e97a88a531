-- Lists with the same items, each as often.
use Rattle.std.proofs.Common.{◌≡◌, ℕ, zero, suc, ◌+◌, ◌*◌, ◌<◌, Bool, true, false, cond, List, [], ◌∷◌, ◌++◌, length}
use Rattle.std.proofs.Common.{map, replicate, sym, refl, ap, ◌∙◌, subst, arith}
use Rattle.view_sums.specs.Total.{total, Each, SameItems}
use Rattle.view_sums.proofs.Sums.{total-append, total-map}

module _ {A : Type 0} where
  pub same_list : (xs ys : List A) → xs ≡ ys → SameItems xs ys
  same_list xs ys e = λ weight. ap (total weight) e

  pub same_sym : (xs ys : List A) → SameItems xs ys → SameItems ys xs
  same_sym xs ys h = λ weight. sym (h weight)

  pub same_trans : (xs ys zs : List A) → SameItems xs ys → SameItems ys zs → SameItems xs zs
  same_trans xs ys zs h k = λ weight. h weight ∙ k weight

  pub same_cons : (x : A) (xs ys : List A) → SameItems xs ys → SameItems (x ∷ xs) (x ∷ ys)
  same_cons x xs ys h = λ weight. omega (arith, h weight)

  -- what stands on both sides can go
  pub same_uncons : (x : A) (xs ys : List A) → SameItems (x ∷ xs) (x ∷ ys) → SameItems xs ys
  same_uncons x xs ys h = λ weight. omega (arith, h weight)

  pub same_append : (xs ys us vs : List A) → SameItems xs ys → SameItems us vs → SameItems (xs ++ us) (ys ++ vs)
  same_append xs ys us vs h k =
      λ weight. omega (arith, h weight, k weight, total-append weight xs us, total-append weight ys vs)

  pub same_swap : (xs ys : List A) → SameItems (xs ++ ys) (ys ++ xs)
  same_swap xs ys = λ weight. omega (arith, total-append weight xs ys, total-append weight ys xs)

  pub same_map : {B : Type 0} (g : A → B) (xs ys : List A) → SameItems xs ys → SameItems (map g xs) (map g ys)
  same_map g xs ys h = λ weight. total-map weight g xs ∙ h (λ x. weight (g x)) ∙ sym (total-map weight g ys)

  pub length-total : (xs : List A) → total (λ _. 1) xs ≡ length xs
  length-total [] = refl
  length-total (x ∷ xs) = omega (arith, length-total xs)

  pub same_length : (xs ys : List A) → SameItems xs ys → length xs ≡ length ys
  same_length xs ys h = sym (length-total xs) ∙ h (λ _. 1) ∙ length-total ys

-- copies of one item
module _ {A : Type 0} (weight : A → ℕ) where
  pub total-replicate_one : (n : ℕ) (x : A) → weight x ≡ 1 → total weight (replicate n x) ≡ n
  total-replicate_one zero x one = refl
  total-replicate_one (suc n) x one = omega (arith, one, total-replicate_one n x one)

  pub total-replicate-add : (m n : ℕ) (x : A) → total weight (replicate (m + n) x) ≡ total weight (replicate m x)
      + total weight (replicate n x)
  total-replicate-add m zero x = let e : m + 0 ≡ m = omega arith in
      omega (arith, ap (λ (k : ℕ). total weight (replicate k x)) e)
  total-replicate-add m (suc n) x = let e : m + suc n ≡ suc (m + n) = omega arith in
      omega (arith, ap (λ (k : ℕ). total weight (replicate k x)) e, total-replicate-add m n x)

  pub total-replicate : (n : ℕ) (x : A) → total weight (replicate n x) ≡ n * weight x
  total-replicate zero x = omega arith
  total-replicate (suc n) x = omega (arith, total-replicate n x)

-- a fact of each item, where a test tells items apart
module _ {A : Type 0} (test : A → A → Bool) (own : (x : A) → test x x ≡ true)
    (one : (x y : A) → test x y ≡ true → x ≡ y) (P : A → Type 0) where
  abbrev often : A → List A → ℕ
  often x xs = total (λ y. cond (test x y) 1 0) xs

  by_test : (x y : A) (xs : List A) (t : Bool) → test x y ≡ t → P y → (0 < often x xs → P x)
      → 0 < cond t 1 0 + often x xs → P x
  by_test x y xs true e here later some = subst P (sym (one x y e)) here
  by_test x y xs false e here later some = later (omega (arith, some))

  is_among : (x : A) (xs : List A) → Each P xs → 0 < often x xs → P x
  is_among x [] all some = absurd (omega arith)
  is_among x (y ∷ xs) all some = by_test x y xs (test x y) refl all.0 (is_among x xs all.1) some

  each_among : (xs : List A) → ((x : A) → 0 < often x xs → P x) → Each P xs
  each_among [] all = tt
  each_among (x ∷ xs) all = (
    all x (omega (arith, ap {B = ℕ} (λ t. cond t 1 0) (own x))),
    each_among xs
        (λ y some. all y (omega (arith, some))),
  )

  pub each_items : (xs ys : List A) → SameItems xs ys → Each P xs → Each P ys
  each_items xs ys same all =
      each_among ys (λ y some. is_among y xs all (omega (arith, same (λ u. cond (test y u) 1 0), some)))
