-- The rows of the first parts of a call, and of one part more.
use Rattle.std.proofs.Common.{◌≡◌, ℕ, zero, suc, ◌+◌, ◌<◌, ◌≤◌, List, [], ◌∷◌, ◌++◌, Option, Some, length, take}
use Rattle.std.proofs.Common.{slice_get, ap, ◌∙◌, subst, arith}
use Rattle.std.proofs.lemmas.List.{length-append}
use Rattle.view_sums.proofs.Sums.{total-append}
use Rattle.pin_core.specs.declared.class.Class.{Class}
use Rattle.pin_core.specs.declared.sizes.Sizes.{Sizes}
use Rattle.pinned_pool.specs.Sought.{Sought}
use Rattle.pinned_pool.specs.declared.view.View.{View}
use Rattle.pinned_pool.proofs.SoughtLaws.{sought_within}
use Rattle.flake_model.specs.Store.{Operation}
use Rattle.shard_core.specs.Demand.{part_row}
use Rattle.shard_core.specs.Outcomes.{PartOutcome, Outcomes, missed_in}
use Rattle.shard_core.specs.CallDemand.{parts_row}

-- one part more is one row more
take_more : (operations : List Operation) (n : ℕ) (operation : Operation) → slice_get operations n ≡ Some operation
    → take (suc n) operations ≡ take n operations ++ operation ∷ []
take_more [] n operation is = absurd (let no : ⊥ = cc in no)
take_more (first ∷ operations) zero operation is = let same : first ≡ operation = cc in λ i. same i ∷ []
take_more (first ∷ operations) (suc n) operation is =
    ap (λ (l : List Operation). first ∷ l) (take_more operations n operation is)

pub row_more : (class : Class) (operations : List Operation) (outcomes : Outcomes) (outcome : Option PartOutcome)
    (operation : Operation) → slice_get operations (length outcomes) ≡ Some operation
    → parts_row class (take (length (outcomes ++ outcome ∷ [])) operations)
    ≡ parts_row class (take (length outcomes) operations) + part_row class operation
row_more class operations outcomes outcome operation is =
    let n = length outcomes in
    let long : length (outcomes ++ outcome ∷ []) ≡ suc n = omega (arith, length-append outcomes (outcome ∷ [])) in
    let now = ap (λ n. parts_row class (take n operations)) long
    ∙ ap (parts_row class) (take_more operations n operation is) in
    omega (arith, now, total-append (part_row class) (take n operations) (operation ∷ []))

pub missed_more : (outcomes : Outcomes) (outcome : Option PartOutcome)
    → missed_in (outcomes ++ outcome ∷ []) ≡ missed_in outcomes + missed_in (outcome ∷ [])
missed_more outcomes outcome = total-append _ outcomes (outcome ∷ [])

-- the first parts and the next one are among all
pub front_row : (class : Class) (operations : List Operation) (n : ℕ) (operation : Operation)
    → slice_get operations n ≡ Some operation
    → parts_row class (take n operations) + part_row class operation ≤ parts_row class operations
front_row class [] n operation is = absurd (let no : ⊥ = cc in no)
front_row class (first ∷ operations) zero operation is =
    let same : first ≡ operation = cc in omega (arith, ap (part_row class) same)
front_row class (first ∷ operations) (suc n) operation is = omega (arith, front_row class operations n operation is)

pub below_end : {A : Type 0} (xs : List A) (n : ℕ) (x : A) → slice_get xs n ≡ Some x → n < length xs
below_end [] n x is = absurd (let no : ⊥ = cc in no)
below_end (y ∷ xs) zero x is = omega arith
below_end (y ∷ xs) (suc n) x is = omega (arith, below_end xs n x is)

-- the same rows and missed parts, said otherwise
pub sought_as : (z : Sizes) (rows more : Class → ℕ) (parts others : ℕ) (old new : View) → Sought z rows parts old new
    → ((class : Class) → rows class ≤ more class) → parts ≡ others → Sought z more others old new
sought_as z rows more parts others old new sought within same =
    subst (λ n. Sought z more n old new) same (sought_within z rows more parts old new sought within)
