-- Lists by their places and by what stands in them.
use Rattle.std.proofs.Common.{◌≡◌, ℕ, zero, suc, ◌<◌, inl, inr, List, [], ◌∷◌, ◌++◌, Some, length}
use Rattle.std.proofs.Common.{map, slice_get, refl, sym, ◌∙◌, subst, arith}
use Rattle.std.specs.List.{AllByRecursion, flat_map}
use Rattle.view_sums.specs.Total.{Each}
use Rattle.flake_model.proofs.OneOrder.{Among}
use Rattle.order_book.proofs.Among.{among-left, among-right}

-- what a place of a mapped list comes from
pub record IsBehind {A B : Type 0} (f : A → B) (xs : List A) (k : ℕ) (y : B) : Type 0 where
  pub source : A
  pub there : slice_get xs k ≡ Some source
  pub is : f source ≡ y

pub behind_map : {A B : Type 0} (f : A → B) (xs : List A) (k : ℕ) (y : B) → slice_get (map f xs) k ≡ Some y
    → IsBehind f xs k y
behind_map f [] k y is = absurd (let no : ⊥ = cc in no)
behind_map f (x ∷ xs) zero y is = record { source = x; there = refl; is = (let same : f x ≡ y = cc in same) }
behind_map f (x ∷ xs) (suc k) y is =
    let rest = behind_map f xs k y is in
    record { source = rest.source; there = rest.there; is = rest.is }

module _ {A : Type 0} where
  pub record IsWithin (xs : List A) (k : ℕ) : Type 0 where
    pub found : A
    pub there : slice_get xs k ≡ Some found

  pub within : (xs : List A) (k : ℕ) → k < length xs → IsWithin xs k
  within [] k less = absurd (let no : ⊥ = omega (arith, less) in no)
  within (x ∷ xs) zero less = record { found = x; there = refl }
  within (x ∷ xs) (suc k) less =
      let rest = within xs k (omega (arith, less)) in
      record { found = rest.found; there = rest.there }

  pub same_place : (xs : List A) (k : ℕ) (x y : A) → slice_get xs k ≡ Some x → slice_get xs k ≡ Some y → x ≡ y
  same_place xs k x y a b = let both : Some x ≡ Some y = sym a ∙ b in let same : x ≡ y = cc in same

  pub all_of_among : (P : A → Type 0) (xs : List A) → ((x : A) → Among xs x → P x) → AllByRecursion P xs
  all_of_among P [] each = tt
  all_of_among P (x ∷ xs) each = (each x (inl refl), all_of_among P xs (λ y among. each y (inr among)))

  pub among_all : (P : A → Type 0) (xs : List A) (x : A) → AllByRecursion P xs → Among xs x → P x
  among_all P [] x all among = absurd among
  among_all P (y ∷ xs) x all (inl is) = subst P is all.0
  among_all P (y ∷ xs) x all (inr among) = among_all P xs x all.1 among

  pub all_of_each : (P : A → Type 0) (xs : List A) → Each P xs → AllByRecursion P xs
  all_of_each P [] each = tt
  all_of_each P (x ∷ xs) each = (each.0, all_of_each P xs each.1)

  pub among_place : (xs : List A) (k : ℕ) (x : A) → slice_get xs k ≡ Some x → Among xs x
  among_place [] k x is = absurd (let no : ⊥ = cc in no)
  among_place (y ∷ xs) zero x is = inl (let same : y ≡ x = cc in same)
  among_place (y ∷ xs) (suc k) x is = inr (among_place xs k x is)

  -- the front of a longer list
  pub front_place : (xs ys : List A) (k : ℕ) (x : A) → slice_get xs k ≡ Some x → slice_get (xs ++ ys) k ≡ Some x
  front_place [] ys k x is = absurd (let no : ⊥ = cc in no)
  front_place (y ∷ xs) ys zero x is = is
  front_place (y ∷ xs) ys (suc k) x is = front_place xs ys k x is

  -- what stands in one of several lists, joined
  pub in_joined : (xss : List (List A)) (xs : List A) (x : A) → Among xss xs → Among xs x
      → Among (flat_map (λ ys. ys) xss) x
  in_joined [] xs x in_all among = absurd in_all
  in_joined (ys ∷ xss) xs x (inl is) among =
      among-left ys (flat_map (λ ys. ys) xss) x (subst (λ l. Among l x) (sym is) among)
  in_joined (ys ∷ xss) xs x (inr in_all) among =
      among-right ys (flat_map (λ ys. ys) xss) x (in_joined xss xs x in_all among)
