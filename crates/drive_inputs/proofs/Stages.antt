-- Stages whose buffers are apart, by the addresses of these.
use Rattle.std.proofs.Common.{◌≡◌, ℕ, zero, suc, ◌<◌, List, [], ◌∷◌, All, Some, map, slice_get, refl, sym, ap}
use Rattle.std.proofs.Common.{◌∙◌, subst, arith}
use Rattle.std.proofs.lemmas.List.Elements.{All-head, All-tail}
use Rattle.view_sums.specs.Total.{Each}
use Rattle.pin_core.specs.declared.sizes.Sizes.{Sizes}
use Rattle.pinned_pool.specs.Addresses.{address_of}
use Rattle.reply_planner.specs.Places.{buffer_addresses}
use Rattle.reply_planner.specs.Stages.{StagesAreApart}
use Rattle.drive_script.proofs.Addresses.{small_address}

-- an item of a list that was made of another one
record Made {A B : Type 0} (f : A → B) (xs : List A) (k : ℕ) (y : B) : Type 0 where
  from : A
  there : slice_get xs k ≡ Some from
  is : f from ≡ y

made : {A B : Type 0} (f : A → B) (xs : List A) (k : ℕ) (y : B) → slice_get (map f xs) k ≡ Some y → Made f xs k y
made f [] k y is = absurd (none k is) where
  none : (n : ℕ) → slice_get [] n ≡ Some y → ⊥
  none n at = cc
made f (x ∷ xs) zero y is = let same : f x ≡ y = cc in record { from = x; there = refl; is = same }
made f (x ∷ xs) (suc k) y is =
    let rest = made f xs k y is in record { from = rest.from; there = rest.there; is = rest.is }

each_at : {A : Type 0} (P : A → Type 0) (xs : List A) (k : ℕ) (x : A) → slice_get xs k ≡ Some x → Each P xs → P x
each_at P [] k x is all = absurd (none k is) where
  none : (n : ℕ) → slice_get [] n ≡ Some x → ⊥
  none n at = cc
each_at P (y ∷ ys) zero x is all = let same : y ≡ x = cc in subst P same all.0
each_at P (y ∷ ys) (suc k) x is all = each_at P ys k x is all.1

module _ (z : Sizes) where
  abbrev AreSmall : List ℕ → Type 0
  AreSmall stage = Each (λ buffer. buffer < z.small) stage

  one_buffer : (b c : ℕ) → b < z.small → c < z.small → address_of z b ≡ address_of z c → b ≡ c
  one_buffer b c near near' same = omega (arith, small_address z b near, small_address z c near', same)

  pub addresses_apart : (stages : List (List ℕ)) → Each AreSmall stages → StagesAreApart stages
      → StagesAreApart (map (buffer_addresses z) stages)
  addresses_apart stages small apart i j k l n one other first second here there =
      let a = made (buffer_addresses z) stages i one first in
      let b = made (buffer_addresses z) stages j other second in
      let x = made (address_of z) a.from k n (ap (λ stage. slice_get stage k) a.is ∙ here) in
      let y = made (address_of z) b.from l n (ap (λ stage. slice_get stage l) b.is ∙ there) in
      let small_x = each_at (λ buffer. buffer < z.small) a.from k x.from x.there
      (each_at AreSmall stages i a.from a.there small) in
      let small_y = each_at (λ buffer. buffer < z.small) b.from l y.from y.there
      (each_at AreSmall stages j b.from b.there small) in
      apart i j k l x.from a.from b.from a.there b.there x.there
      (y.there ∙ ap Some (one_buffer y.from x.from small_y small_x (y.is ∙ sym x.is)))

  -- those of new passes are small
  pub all_small : {K : Type 0} (P : K → Type 0) (own : K → List ℕ) (slots : List K) → ((k : K) → P k → AreSmall (own k))
      → All P slots → Each AreSmall (map own slots)
  all_small P own [] small all = tt
  all_small P own (k ∷ slots) small all =
      (small k (All-head P k slots all), all_small P own slots small (All-tail P k slots all))
