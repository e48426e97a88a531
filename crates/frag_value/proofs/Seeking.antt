-- What a write or an append sought, by what it claimed and why it was refused.
use Rattle.std.proofs.Common.{◌≡◌, ℕ, ◌+◌, ◌<◌, ◌≤◌, ⊎_elim, List, refl, ap, ◌∙◌, arith}
use Rattle.pin_core.specs.Buffers.{buffers}
use Rattle.pin_core.specs.declared.sizes.Sizes.{Sizes}
use Rattle.pin_core.specs.declared.class.Class.{Class}
use Rattle.pinned_pool.specs.Views.{looked_at}
use Rattle.pinned_pool.specs.Classes.{class_at, just, buffers_in}
use Rattle.pinned_pool.specs.Sought.{Sought}
use Rattle.pinned_pool.specs.declared.pool.NoBuffer.{NoBuffer}
use Rattle.pinned_pool.specs.declared.view.View.{View}
use Rattle.pinned_pool.proofs.InClasses.{looked-more, decide, just-else, just-both, just-most}
use Rattle.pinned_pool.proofs.SoughtLaws.{sought_nothing, sought_within}
use Rattle.frag_value.specs.Fragments.{fragments_in}
use Rattle.frag_value.specs.Claimed.{ClaimsFor, NoneLeft}

-- nothing was sought
pub sought_same : (z : Sizes) (rows : Class → ℕ) (v w : View) → w ≡ v → Sought z rows 0 v w
sought_same z rows v w e = sought_within z (λ _. 0) rows 0 v w
    (sought_nothing z v w (ap (λ (u : View). u.claims) e) (ap (λ (u : View). u.looks) e)) (λ class. omega arith)

pub sought_placed : (z : Sizes) (fragments : List (List ℕ)) (v w : View) → ClaimsFor z fragments v w
    → Sought z (λ class. fragments_in class fragments) 0 v w
sought_placed z fragments v w for = record {
  missed = λ class. 0;
  missed_are = refl;
  claims = λ class. omega (arith, for.few class);
  looks = λ b near. omega (arith, looked-more b v w for.keeps.looks.0 for.keeps.looks.1);
}

pub sought_refused : (z : Sizes) (fragments : List (List ℕ)) (none : NoBuffer) (v w : View) → ClaimsFor z fragments v w
    → NoneLeft z fragments none v w → Sought z (λ class. fragments_in class fragments) 1 v w
sought_refused z fragments none v w for left = record {
  missed = just none.class 1;
  missed_are = just-both none.class 1;
  claims = fewer;
  looks = λ b near. more b near (class_at z b) refl;
}
  where
    fewer : (class : Class) → buffers_in z class w.claims + just none.class 1 class ≤ buffers_in z class v.claims
        + fragments_in class fragments
    fewer class =
        ⊎_elim
        (λ same. omega (
          arith,
          left.fewer,
          just-most none.class class 1,
          ap (λ c. buffers_in z c w.claims) same,
          ap
              (λ c. buffers_in z c v.claims) same,
          ap (λ c. fragments_in c fragments) same,
        ))
        (λ away. omega (arith, for.few class, just-else none.class class 1 away))
        (decide none.class class)

    more : (b : ℕ) → b < buffers z → (here : Class) → class_at z b ≡ here → looked_at b v.looks + just none.class 1 here
        ≤ looked_at b w.looks
    more b near here is =
        ⊎_elim
        (λ same. omega (arith, just-most none.class here 1, left.found b near (is ∙ same)))
        (λ away. omega (arith, just-else none.class here 1 away, looked-more b v w for.keeps.looks.0 for.keeps.looks.1))
        (decide none.class here)

pub ruleset seeking = (sought_same, sought_placed, sought_refused)
