-- What all seats have as one list, as seats change and come.
use Rattle.std.proofs.Common.{◌≡◌, ℕ, ◌+◌, List, [], ◌∷◌, ◌++◌, length, set, replicate, sym, refl, ap, ◌∙◌, arith}
use mathlib.Core.Option.{some}
use lib.ListN.{get_elem?}
use Rattle.view_sums.specs.Total.{total, SameItems}
use Rattle.view_sums.specs.Numbered.{by_number}
use Rattle.view_sums.proofs.Sums.{total-map, total-append}
use Rattle.view_sums.proofs.Items.{length-total, total-replicate_one}
use Rattle.view_sums.proofs.NumberedSums.{total-by_number-set, total-by_number-append, total-by_number}
use Rattle.pin_core.specs.Holding.{Holding}
use Rattle.pin_core.specs.Pins.{Owned, own, weigh}
use Rattle.pinned_pool.specs.Views.{all_holds}
use Rattle.pinned_pool.specs.Rule.{holds_by, credits_by}
use Rattle.pinned_pool.specs.declared.view.View.{View}

module _ {B : Type 0} (weight : B → ℕ) (part : ℕ → View → List B) where
  -- one seat changed
  part-set : (views : List View) (seat : ℕ) (v w : View) → get_elem? views seat ≡ some v
      → total weight (by_number part 0 (set views seat w)) + total weight (part seat v)
      ≡ total weight (by_number part 0 views) + total weight (part seat w)
  part-set views seat v w me =
      let number : 0 + seat ≡ seat = omega arith in
      omega (
        arith,
        total-by_number-set weight part 0 views seat v w me,
        ap (λ (k : ℕ). total weight (part k v)) number,
        ap (λ (k : ℕ). total weight (part k w)) number,
      )

  -- one seat came
  part-push : (views : List View) (w : View) (n : ℕ) → length views ≡ n
      → total weight (by_number part 0 (views ++ w ∷ [])) ≡ total weight (by_number part 0 views)
      + total weight (part n w)
  part-push views w n len =
      let number : 0 + length views ≡ n = omega (arith, len) in
      omega (
        arith,
        total-by_number-append weight part 0 views (w ∷ []),
        total-append weight (part (0 + length views) w) [],
        ap (λ (k : ℕ). total weight (part k w)) number,
      )

pub holds-set : (weight : Owned ℕ → ℕ) (views : List View) (seat : ℕ) (v w : View) → get_elem? views seat ≡ some v
    → total weight (by_number holds_by 0 (set views seat w)) + total (λ h. weight (own seat h)) v.holds
    ≡ total weight (by_number holds_by 0 views) + total (λ h. weight (own seat h)) w.holds
holds-set weight views seat v w me =
    omega (
      arith,
      part-set weight holds_by views seat v w me,
      total-map weight (own seat) v.holds,
      total-map weight
          (own seat) w.holds,
    )

pub holds-push : (weight : Owned ℕ → ℕ) (views : List View) (w : View) (n : ℕ) → length views ≡ n
    → total weight (by_number holds_by 0 (views ++ w ∷ [])) ≡ total weight (by_number holds_by 0 views)
    + total (λ h. weight (own n h)) w.holds
holds-push weight views w n len =
    omega (arith, part-push weight holds_by views w n len, total-map weight (own n) w.holds)

pub credits-set : (weight : ℕ → ℕ) (views : List View) (seat : ℕ) (v w : View) → get_elem? views seat ≡ some v
    → total weight (by_number credits_by 0 (set views seat w)) + total weight (replicate v.credits seat)
    ≡ total weight (by_number credits_by 0 views) + total weight (replicate w.credits seat)
credits-set weight views seat v w me = part-set weight credits_by views seat v w me

pub credits-push : (weight : ℕ → ℕ) (views : List View) (w : View) (n : ℕ) → length views ≡ n
    → total weight (by_number credits_by 0 (views ++ w ∷ [])) ≡ total weight (by_number credits_by 0 views)
    + total weight (replicate w.credits n)
credits-push weight views w n len = part-push weight credits_by views w n len

-- a seat that keeps its credits
pub credits_stay : (views : List View) (seat : ℕ) (v w : View) → get_elem? views seat ≡ some v → w.credits ≡ v.credits
    → SameItems (by_number credits_by 0 (set views seat w)) (by_number credits_by 0 views)
credits_stay views seat v w me same =
    λ weight. omega (arith, credits-set weight views seat v w me, ap (λ (n : ℕ). total weight (replicate n seat)) same)

-- sums in which numbers don't matter
pub weigh_all : (weight : Holding → ℕ) (views : List View) → weigh (by_number holds_by 0 views) weight
    ≡ all_holds weight views
weigh_all weight views = total-by_number (λ (o : Owned ℕ). weight o.hold) holds_by (λ (v : View). total weight v.holds)
    (λ k v. total-map (λ (o : Owned ℕ). weight o.hold) (own k) v.holds) 0 views

pub count_credits : (views : List View) → length (by_number credits_by 0 views) ≡ total (λ (v : View). v.credits) views
count_credits views = sym (length-total (by_number credits_by 0 views)) ∙ total-by_number (λ (k : ℕ). 1) credits_by
    (λ (v : View). v.credits) (λ k v. total-replicate_one (λ (n : ℕ). 1) v.credits k refl) 0 views
