-- Staging buffers that are lent and come back.
use Rattle.std.proofs.Common.{◌≡◌, ℕ, zero, suc, ◌+◌, ◌≤◌, List, [], ◌∷◌, ◌++◌, take, drop, map, refl, ap, sym, ◌∙◌}
use Rattle.std.proofs.Common.{subst, arith}
use Rattle.view_sums.specs.Total.{total}
use Rattle.reply_planner.specs.Stages.{IsFrom, IsOrdered, inserted, merged}
use Rattle.reply_planner.proofs.Merged.{inserted-here}

rest_ordered : (a : ℕ) (bs : List ℕ) → IsFrom a bs → IsOrdered bs
rest_ordered a [] from = tt
rest_ordered a (b ∷ bs) from = from.1

inserted-first : (a : ℕ) (bs : List ℕ) → IsFrom a bs → inserted a bs ≡ a ∷ bs
inserted-first a [] from = refl
inserted-first a (b ∷ bs) from = inserted-here a b bs from.0

merged-ordered : (bs cs : List ℕ) → IsOrdered (bs ++ cs) → merged bs cs ≡ bs ++ cs
merged-ordered [] cs ordered = refl
merged-ordered (b ∷ bs) cs ordered = ap (inserted b) (merged-ordered bs cs (rest_ordered b (bs ++ cs) ordered))
    ∙ inserted-first b (bs ++ cs) ordered

drop_ordered : (k : ℕ) (bs : List ℕ) → IsOrdered bs → IsOrdered (drop k bs)
drop_ordered zero bs ordered = ordered
drop_ordered (suc k) [] ordered = tt
drop_ordered (suc k) (b ∷ bs) ordered = drop_ordered k bs (rest_ordered b bs ordered)

parts-append : (k n : ℕ) (bs : List ℕ) → k ≤ n → drop k (take n bs) ++ drop n bs ≡ drop k bs
parts-append zero zero bs few = refl
parts-append zero (suc n) [] few = refl
parts-append zero (suc n) (b ∷ bs) few = ap (λ l. b ∷ l) (parts-append zero n bs (omega arith))
parts-append (suc k) zero bs few = absurd (omega (arith, few))
parts-append (suc k) (suc n) [] few = refl
parts-append (suc k) (suc n) (b ∷ bs) few = parts-append k n bs (omega (arith, few))

-- those that weren't used go back to the others
pub merged-rest : (k n : ℕ) (free : List ℕ) → k ≤ n → IsOrdered free → merged (drop k (take n free)) (drop n free)
    ≡ drop k free
merged-rest k n free few ordered =
    let all = parts-append k n free few in
    merged-ordered (drop k (take n free)) (drop n free) (subst IsOrdered (sym all) (drop_ordered k free ordered)) ∙ all

pub take-fewer : (k n : ℕ) (bs : List ℕ) → k ≤ n → take k (take n bs) ≡ take k bs
take-fewer zero n bs few = refl
take-fewer (suc k) zero bs few = absurd (omega (arith, few))
take-fewer (suc k) (suc n) [] few = refl
take-fewer (suc k) (suc n) (b ∷ bs) few = ap (λ l. b ∷ l) (take-fewer k n bs (omega (arith, few)))

pub take-map : (f : ℕ → ℕ) (k : ℕ) (bs : List ℕ) → map f (take k bs) ≡ take k (map f bs)
take-map f zero bs = refl
take-map f (suc k) [] = refl
take-map f (suc k) (b ∷ bs) = ap (λ l. f b ∷ l) (take-map f k bs)

-- both parts are all
pub total-parts : (weight : ℕ → ℕ) (n : ℕ) (bs : List ℕ) → total weight (drop n bs) + total weight (take n bs)
    ≡ total weight bs
total-parts weight zero bs = omega arith
total-parts weight (suc n) [] = refl
total-parts weight (suc n) (b ∷ bs) = omega (arith, total-parts weight n bs)
