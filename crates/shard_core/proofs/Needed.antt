-- How misses of a class that was needed add up, and where they begin.
use Rattle.std.proofs.Common.{◌≡◌, ℕ, ◌+◌, ◌≤◌, [], ◌∷◌, ◌++◌, List, Option, Some, None, length, slice_get}
use Rattle.std.proofs.Common.{refl, ap, ◌∙◌, arith}
use Rattle.pin_core.specs.declared.class.Class.{Class}
use Rattle.pin_core.specs.declared.class.Class.TheVariants.{Small, Large}
use Rattle.pin_core.specs.declared.sizes.Sizes.{Sizes}
use Rattle.pinned_pool.specs.Classes.{buffers_in}
use Rattle.pinned_pool.specs.Sought.{Sought}
use Rattle.pinned_pool.specs.Views.{looked_at}
use Rattle.pinned_pool.specs.declared.view.View.{View}
use Rattle.flake_model.specs.Store.{Operation}
use Rattle.shard_core.specs.Demand.{part_row}
use Rattle.shard_core.specs.Needed.{may_need, parts_needing, SoughtFor}
use Rattle.shard_core.specs.Outcomes.{PartOutcome, Outcomes, answer_told, missed_in}

-- where claims only grew, one part misses only what it may need
pub needs_one : (z : Sizes) (operation : Operation) (outcome : Option PartOutcome) (u v : View)
    → Sought z (λ (class : Class). part_row class operation) (missed_in (outcome ∷ [])) u v
    → ((class : Class) → buffers_in z class u.claims ≤ buffers_in z class v.claims)
    → SoughtFor z (λ (class : Class). part_row class operation)
    (λ (class : Class). may_need class operation (answer_told outcome)) (missed_in (outcome ∷ [])) u v
needs_one z operation None u v one grew = record {
  sought = one;
  few = λ class. omega (arith, part one.missed one.missed_are class, one.claims class, grew class);
}
  where
    part : (missed : Class → ℕ) → missed Small + missed Large ≡ 1 → (class : Class) → missed class ≤ 1
    part missed are Small = omega (arith, are)
    part missed are Large = omega (arith, are)
needs_one z operation (Some done) u v one grew = record { sought = one; few = none one.missed one.missed_are }
  where
    none : (missed : Class → ℕ) → missed Small + missed Large ≡ 0 → (class : Class) → missed class ≤ 0
    none missed are Small = omega (arith, are)
    none missed are Large = omega (arith, are)

-- one stretch after another
pub for_then : (z : Sizes) (rows more needing others : Class → ℕ) (n m : ℕ) (u v w : View)
    → SoughtFor z rows needing n u v → SoughtFor z more others m v w
    → SoughtFor z (λ class. rows class + more class) (λ class. needing class + others class) (n + m) u w
for_then z rows more needing others n m u v w one two = record {
  sought = record {
    missed = λ class. one.sought.missed class + two.sought.missed class;
    missed_are = omega (arith, one.sought.missed_are, two.sought.missed_are);
    claims = λ class. omega (arith, one.sought.claims class, two.sought.claims class);
    looks = λ b near. omega (arith, one.sought.looks b near, two.sought.looks b near);
  };
  few = λ class. omega (arith, one.few class, two.few class);
}

-- the same, within greater rows and needs, or said otherwise
pub for_within : (z : Sizes) (rows more needing others : Class → ℕ) (n m : ℕ) (u v : View)
    → SoughtFor z rows needing n u v → ((class : Class) → rows class ≤ more class)
    → ((class : Class) → needing class ≤ others class) → n ≡ m → SoughtFor z more others m u v
for_within z rows more needing others n m u v one rows_are needs_are same = record {
  sought = record {
    missed = one.sought.missed;
    missed_are = one.sought.missed_are ∙ same;
    claims = λ class. omega (arith, one.sought.claims class, rows_are class);
    looks = one.sought.looks;
  };
  few = λ class. omega (arith, one.few class, needs_are class);
}

-- between seats whose claims and looks are those of others
pub for_moved : (z : Sizes) (rows needing : Class → ℕ) (n : ℕ) (u v before after : View)
    → SoughtFor z rows needing n u v → u.claims ≡ before.claims → u.looks ≡ before.looks → after.claims ≡ v.claims
    → after.looks ≡ v.looks → SoughtFor z rows needing n before after
for_moved z rows needing n u v before after one claims looks now_claims now_looks = record {
  sought = record {
    missed = one.sought.missed;
    missed_are = one.sought.missed_are;
    claims = λ class. omega (
      arith,
      one.sought.claims class,
      ap (buffers_in z class) claims,
      ap (buffers_in z class) now_claims,
    );
    looks = λ b near. omega
        (arith, one.sought.looks b near, ap (looked_at b) looks, ap (looked_at b) now_looks);
  };
  few = one.few;
}

-- a seat whose claims and looks stayed
pub for_nothing : (z : Sizes) (rows needing : Class → ℕ) (u v : View) → v.claims ≡ u.claims → v.looks ≡ u.looks
    → SoughtFor z rows needing 0 u v
for_nothing z rows needing u v claims looks = record {
  sought = record {
    missed = λ class. 0;
    missed_are = refl;
    claims = λ class. omega (arith, ap (buffers_in z class) claims);
    looks = λ b near. omega (arith, ap (looked_at b) looks);
  };
  few = λ class. omega arith;
}

-- one part more is one need more
pub needing_more : (class : Class) (operations : List Operation) (outcomes : Outcomes) (outcome : Option PartOutcome)
    (operation : Operation) → slice_get operations (length outcomes) ≡ Some operation
    → parts_needing class operations (outcomes ++ outcome ∷ [])
    ≡ parts_needing class operations outcomes + may_need class operation (answer_told outcome)
needing_more class [] outcomes outcome operation is = absurd (let no : ⊥ = cc in no)
needing_more class (first ∷ []) [] outcome operation is =
    let same : first ≡ operation = cc in
    omega (arith, ap (λ (o : Operation). may_need class o (answer_told outcome)) same)
needing_more class (first ∷ next ∷ operations) [] outcome operation is =
    let same : first ≡ operation = cc in
    omega (arith, ap (λ (o : Operation). may_need class o (answer_told outcome)) same)
needing_more class (first ∷ operations) (o ∷ outcomes) outcome operation is =
    omega (arith, needing_more class operations outcomes outcome operation is)
