-- How many buffers of each class a seat holds that has values and nothing else.
use Rattle.std.proofs.Common.{◌≡◌, ℕ, zero, suc, ◌+◌, ◌<◌, ◌≤◌, Bool, true, false, cond, eqb, ltb, nat_lt, List, []}
use Rattle.std.proofs.Common.{◌∷◌, sym, refl, ap, ◌∙◌, eq-eqb, ne_eqb, ltb-true, ltb-false, lt-ltb, arith}
use mathlib.Core.Logic.{dite}
use native.Mathlib.Decide.{ℕ_discrete}
use Rattle.view_sums.specs.Total.{total, Each}
use Rattle.view_sums.proofs.Sums.{total-cong, total-le, total-add, total-zero}
use Rattle.pin_core.specs.Buffers.{buffers}
use Rattle.pin_core.specs.Holding.{Holding, Key, at, loose_at, pin_of}
use Rattle.pin_core.specs.HeldCount.{held_in}
use Rattle.pin_core.specs.declared.sizes.Sizes.{Sizes}
use Rattle.pin_core.specs.declared.class.Class.{Class}
use Rattle.pin_core.specs.declared.class.Class.TheVariants.{Small, Large}
use Rattle.pinned_pool.specs.Classes.{class_at, just}
use Rattle.pinned_pool.specs.Ends.{pool_end}
use Rattle.pinned_pool.specs.Views.{IsLoose}
use Rattle.pinned_pool.specs.declared.view.View.{View}
use Rattle.frag_value.specs.Fragments.{class_for}
use Rattle.frag_value.specs.Values.{IsValue, IsPlaced, keys_of, size_of}
use Rattle.frag_value.specs.Exactly.{HasExactly, ValuesAreCounted, values_weight, holds_in, buffers_for_all}
use Rattle.frag_value.proofs.Counting.{count-cut}

-- a weight that no fragment of a value has
module _ (z : Sizes) (weight : Key → ℕ) (nothing : (v : List (ℕ × ℕ)) → Each (IsPlaced z) v → total weight (keys_of v)
    ≡ 0) where
  weighs_nothing : (values : List (List (ℕ × ℕ))) → Each (IsValue z) values → values_weight weight values ≡ 0
  weighs_nothing [] are = refl
  weighs_nothing (v ∷ values) are = omega (arith, nothing v are.0.placed, weighs_nothing values are.1)

unpinned_keys : (v : List (ℕ × ℕ)) → total (λ (k : Key). cond k.pinned 1 0) (keys_of v) ≡ 0
unpinned_keys [] = refl
unpinned_keys (p ∷ v) = omega (arith, unpinned_keys v)

pub none-pinned : (z : Sizes) (hs : List Holding) (values : List (List (ℕ × ℕ))) → HasExactly z hs values
    → total pin_of hs ≡ 0
none-pinned z hs values x = x.exact (λ k. cond k.pinned 1 0) ∙ weighs_nothing z (λ k. cond k.pinned 1 0)
    (λ v placed. unpinned_keys v) values x.are_values

-- by classes
class-keys : (z : Sizes) (class : Class) (v : List (ℕ × ℕ)) → Each (IsPlaced z) v
    → total (λ (k : Key). just (class_at z k.buffer) 1 class) (keys_of v)
    ≡ total (λ (p : ℕ × ℕ). just (class_for p.1) 1 class) v
class-keys z class [] placed = refl
class-keys z class (p ∷ v) placed =
    omega (arith, ap {B = ℕ} (λ c. just c 1 class) placed.0.1, class-keys z class v placed.1)

class-values : (z : Sizes) (class : Class) (values : List (List (ℕ × ℕ))) → Each (IsValue z) values
    → values_weight (λ (k : Key). just (class_at z k.buffer) 1 class) values ≡ buffers_for_all class values
class-values z class [] are = refl
class-values z class (v ∷ values) are =
    omega (
      arith,
      class-keys z class v are.0.placed,
      count-cut class (size_of v) v are.0.cut,
      class-values z class
          values are.1,
    )

pub count-class : (z : Sizes) (class : Class) (hs : List Holding) (values : List (List (ℕ × ℕ)))
    → HasExactly z hs values → holds_in z class hs ≡ buffers_for_all class values
count-class z class hs values x = x.exact (λ k. just (class_at z k.buffer) 1 class)
    ∙ class-values z class values x.are_values

-- 1 for a number that is one of the n from the first on
abbrev within : ℕ → ℕ → ℕ → ℕ
within first zero b = 0
within first (suc n) b = within first n b + cond (eqb b (first + n)) 1 0

within-above : (first n b : ℕ) → first + n ≤ b → within first n b ≡ 0
within-above first zero b far = refl
within-above first (suc n) b far =
    omega (
      arith,
      within-above first n b (omega arith),
      ap {B = ℕ} (λ t. cond t 1 0)
          (ne_eqb b (first + n) (λ e. absurd (omega (arith, e, far)))),
    )

within-below : (first n b : ℕ) → b < first → within first n b ≡ 0
within-below first zero b near = refl
within-below first (suc n) b near =
    omega (
      arith,
      within-below first n b near,
      ap {B = ℕ} (λ t. cond t 1 0)
          (ne_eqb b (first + n) (λ e. absurd (omega (arith, e, near)))),
    )

within-inside : (first n b : ℕ) → first ≤ b → b < first + n → within first n b ≡ 1
within-inside first zero b low high = absurd (omega arith)
within-inside first (suc n) b low high = dite (ℕ_discrete b (first + n))
    (λ e. omega (
      arith,
      ap {B = ℕ} (λ t. cond t 1 0) (eq-eqb b (first + n) e),
      within-above first n b
          (omega (arith, e)),
    ))
    (λ ne. omega (
      arith,
      ap {B = ℕ} (λ t. cond t 1 0) (ne_eqb b (first + n) ne),
      within-inside first n b low
          (omega (arith, ne)),
    ))

some_or_none : (t : ℕ) → t ≤ 1 → cond (eqb t 0) 0 1 ≡ t
some_or_none zero low = refl
some_or_none (suc zero) low = refl
some_or_none (suc (suc t)) low = absurd (omega arith)

-- where no buffer has two holds, as many buffers are held as there are holds
held-within : (hs : List Holding) → ((b : ℕ) → total (at b) hs ≤ 1) → (first n : ℕ)
    → held_in (λ weight. total weight hs) first n ≡ total (λ (h : Holding). within first n h.buffer) hs
held-within hs single first zero = sym (total-zero hs)
held-within hs single first (suc n) =
    omega (
      arith,
      held-within hs single first n,
      some_or_none (total (at (first + n)) hs)
          (single (first + n)),
      total-add (λ (h : Holding). within first n h.buffer) (at (first + n)) hs,
    )

loose_or_pinned : (s p : Bool) → cond s 1 0 ≤ cond s (cond p 0 1) 0 + cond p 1 0
loose_or_pinned true true = omega arith
loose_or_pinned true false = omega arith
loose_or_pinned false true = omega arith
loose_or_pinned false false = omega arith

single_holds : (v : View) → IsLoose v → total pin_of v.holds ≡ 0 → (b : ℕ) → total (at b) v.holds ≤ 1
single_holds v loose none b =
    omega (
      arith,
      none,
      loose b,
      total-le (at b) (λ (h : Holding). loose_at b h + pin_of h)
          (λ h. loose_or_pinned (eqb h.buffer b) h.pinned) v.holds,
      total-add (loose_at b) pin_of v.holds,
    )

-- a class has the buffers of its numbers, and the large one besides those that are none of the pool's
module _ (z : Sizes) where
  abbrev strange : ℕ → ℕ
  strange b = cond (nat_lt b (buffers z)) 0 1

  small-within : (b : ℕ) (t : Bool) → ltb b z.small ≡ t → just (cond t Small Large) 1 Small ≡ within 0 z.small b
  small-within b true e = sym (within-inside 0 z.small b (omega arith) (omega (arith, ltb-true b z.small e)))
  small-within b false e = sym (within-above 0 z.small b (omega (arith, ltb-false b z.small e)))

  large-most : (b : ℕ) (t : Bool) → ltb b z.small ≡ t → (s : Bool) → ltb b (buffers z) ≡ s
      → just (cond t Small Large) 1 Large ≤ within z.small z.large b + cond s 0 1
  large-most b true e s f = omega arith
  large-most b false e true f =
      omega (arith, within-inside z.small z.large b (ltb-false b z.small e) (ltb-true b (buffers z) f))
  large-most b false e false f = omega arith

  large-least : (b : ℕ) (t : Bool) → ltb b z.small ≡ t → (s : Bool) → ltb b (buffers z) ≡ s
      → within z.small z.large b ≤ just (cond t Small Large) 1 Large
  large-least b true e s f = omega (arith, within-below z.small z.large b (ltb-true b z.small e))
  large-least b false e true f =
      omega (arith, within-inside z.small z.large b (ltb-false b z.small e) (ltb-true b (buffers z) f))
  large-least b false e false f = omega (arith, within-above z.small z.large b (ltb-false b (buffers z) f))

  known_keys : (v : List (ℕ × ℕ)) → Each (IsPlaced z) v → total (λ (k : Key). strange k.buffer) (keys_of v) ≡ 0
  known_keys [] placed = refl
  known_keys (p ∷ v) placed =
      omega (arith, ap {B = ℕ} (λ t. cond t 0 1) (lt-ltb p.0 (buffers z) placed.0.0), known_keys v placed.1)

  module _ (seat : View) (values : List (List (ℕ × ℕ))) (loose : IsLoose seat) (x : HasExactly z seat.holds values)
    where
      single : (b : ℕ) → total (at b) seat.holds ≤ 1
      single = single_holds seat loose (none-pinned z seat.holds values x)

      none-strange : total (λ (h : Holding). strange h.buffer) seat.holds ≡ 0
      none-strange = x.exact (λ k. strange k.buffer) ∙ weighs_nothing z (λ k. strange k.buffer) known_keys values
          x.are_values

      pub count-held-small : (pool_end z seat).small ≡ buffers_for_all Small values
      count-held-small =
          held-within seat.holds single 0 z.small
          ∙ sym (total-cong (λ (h : Holding). just (class_at z h.buffer) 1 Small)
          (λ (h : Holding). within 0 z.small h.buffer) (λ h. small-within h.buffer (ltb h.buffer z.small) refl)
          seat.holds)
          ∙ count-class z Small seat.holds values x

      pub count-held-large : (pool_end z seat).large ≡ buffers_for_all Large values
      count-held-large =
          let most = total-le (λ (h : Holding). just (class_at z h.buffer) 1 Large)
          (λ (h : Holding). within z.small z.large h.buffer + strange h.buffer)
          (λ h. large-most h.buffer (ltb h.buffer z.small) refl (ltb h.buffer (buffers z)) refl) seat.holds in
          let least = total-le (λ (h : Holding). within z.small z.large h.buffer)
          (λ (h : Holding). just (class_at z h.buffer) 1 Large)
          (λ h. large-least h.buffer (ltb h.buffer z.small) refl (ltb h.buffer (buffers z)) refl) seat.holds in
          omega (
            arith,
            held-within seat.holds single z.small z.large,
            most,
            least,
            none-strange,
            total-add (λ (h : Holding). within z.small z.large h.buffer) (λ (h : Holding). strange h.buffer) seat.holds,
            count-class z Large seat.holds values x,
          )

pub values_are_counted : ValuesAreCounted
values_are_counted = record {
  unpinned = none-pinned;
  of_class = count-class;
  small = count-held-small;
  large = count-held-large;
}

-- what to give to `search`
pub ruleset held_counts = (none-pinned, count-class, count-held-small, count-held-large)
