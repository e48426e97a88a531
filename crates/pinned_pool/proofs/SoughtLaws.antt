-- How what seats sought adds up, and where it begins.
use Rattle.std.proofs.Common.{◌≡◌, ℕ, ◌+◌, ◌<◌, ◌≤◌, ⊎_elim, [], ◌∷◌, refl, ap, ◌∙◌, subst, arith}
use Rattle.pin_core.specs.Buffers.{buffers}
use Rattle.pin_core.specs.Holding.{Key}
use Rattle.pin_core.specs.declared.sizes.Sizes.{Sizes}
use Rattle.pin_core.specs.declared.class.Class.{Class}
use Rattle.pinned_pool.specs.Views.{looked_at}
use Rattle.pinned_pool.specs.Claims.{class_start, count_of, Passed, Wins}
use Rattle.pinned_pool.specs.Classes.{class_at, just, buffers_in}
use Rattle.pinned_pool.specs.Sought.{Sought}
use Rattle.pinned_pool.specs.declared.view.View.{View}
use Rattle.pinned_pool.proofs.Still.{won-class, won-claims, won-looks}
use Rattle.pinned_pool.proofs.InClasses.{in_class, found_each, looked-more, buffers-append, decide, just-else}
use Rattle.pinned_pool.proofs.InClasses.{just-both, just-most, just-add, just-less}

-- one stretch after another
pub sought_then : (z : Sizes) (rows more : Class → ℕ) (n m : ℕ) (u v w : View) → Sought z rows n u v
    → Sought z more m v w → Sought z (λ class. rows class + more class) (n + m) u w
sought_then z rows more n m u v w one two = record {
  missed = λ class. one.missed class + two.missed class;
  missed_are = omega (arith, one.missed_are, two.missed_are);
  claims = λ class. omega (arith, one.claims class, two.claims class);
  looks = λ b near. omega (arith, one.looks b near, two.looks b near);
}

-- within greater rows
pub sought_within : (z : Sizes) (rows more : Class → ℕ) (n : ℕ) (u v : View) → Sought z rows n u v
    → ((class : Class) → rows class ≤ more class) → Sought z more n u v
sought_within z rows more n u v one within = record {
  missed = one.missed;
  missed_are = one.missed_are;
  claims = λ class. omega (arith, one.claims class, within class);
  looks = one.looks;
}

-- a seat whose claims and looks stayed
pub sought_nothing : (z : Sizes) (u v : View) → v.claims ≡ u.claims → v.looks ≡ u.looks → Sought z (λ class. 0) 0 u v
sought_nothing z u v claims looks = record {
  missed = λ class. 0;
  missed_are = refl;
  claims = λ class. omega (arith, ap (buffers_in z class) claims);
  looks = λ b near. omega (arith, ap (looked_at b) looks);
}

-- and one whose claims and looks stayed after a stretch
pub sought_still : (z : Sizes) (rows : Class → ℕ) (n : ℕ) (u v w : View) → Sought z rows n u v → w.claims ≡ v.claims
    → w.looks ≡ v.looks → Sought z rows n u w
sought_still z rows n u v w one claims looks = record {
  missed = one.missed;
  missed_are = one.missed_are;
  claims = λ class. omega (arith, one.claims class, ap (buffers_in z class) claims);
  looks = λ b near. omega (arith, one.looks b near, ap (looked_at b) looks);
}

-- a claim that was won
pub sought_won : (z : Sizes) (class : Class) (k : Key) (v w : View) → Wins z class k v w → Sought z (just class 1) 0 v w
sought_won z class k v w won = record {
  missed = λ other. 0;
  missed_are = refl;
  claims = claimed;
  looks = λ b near. omega
      (arith, looked-more b v w won.looks (won-looks (class_start z class) (count_of z class) k v w won));
}
  where
    claimed : (other : Class) → buffers_in z other w.claims + 0 ≤ buffers_in z other v.claims + just class 1 other
    claimed other =
        let range = won-class (class_start z class) (count_of z class) k v w won in
        let is : class_at z k.buffer ≡ class = (in_class z class k.buffer range.0 range.1).1 in
        let here : just (class_at z k.buffer) 1 other ≡ just class 1 other = ap (λ c. just c 1 other) is in
        omega (
          arith,
          here,
          ap (buffers_in z other) (won-claims (class_start z class) (count_of z class) k v w won),
          buffers-append z other v.claims
              (k.buffer ∷ []),
        )

-- and one that found all buffers of its class held
pub sought_lost : (z : Sizes) (class : Class) (v w : View) → Passed (class_start z class) (count_of z class) v w
    → Sought z (just class 1) 1 v w
sought_lost z class v w passed = record {
  missed = just class 1;
  missed_are = just-both class 1;
  claims = λ other. omega (arith, ap (buffers_in z other) (ap (λ (x : View). x.claims) passed.seat));
  looks = λ b near. at_class b near (class_at z b) refl;
}
  where
    at_class : (b : ℕ) → b < buffers z → (here : Class) → class_at z b ≡ here → looked_at b v.looks + just class 1 here
        ≤ looked_at b w.looks
    at_class b near here is =
        ⊎_elim
        (λ same. omega (arith, just-most class here 1, found_each z class v w passed b near (is ∙ same)))
        (λ away. omega (
          arith,
          just-else class here 1 away,
          looked-more b v w passed.looks
              (ap (λ (x : View). x.looks) passed.seat),
        ))
        (decide class here)

-- some claims of a class, and one more
pub sought_more : (z : Sizes) (class : Class) (n m : ℕ) (u v w : View) → Sought z (just class n) 0 u v
    → Sought z (just class 1) m v w → Sought z (just class (n + 1)) m u w
sought_more z class n m u v w one two =
    sought_within z (λ c. just class n c + just class 1 c) (just class (n + 1)) m u w
    (subst (λ k. Sought z (λ c. just class n c + just class 1 c) k u w) (let none : 0 + m ≡ m = omega arith in none)
    (sought_then z (just class n) (just class 1) 0 m u v w one two))
    (λ c. omega (arith, just-add class c n 1))

-- and fewer than there might be
pub sought_fewer : (z : Sizes) (class : Class) (n most m : ℕ) (u w : View) → n ≤ most → Sought z (just class n) m u w
    → Sought z (just class most) m u w
sought_fewer z class n most m u w few one = sought_within z (just class n) (just class most) m u w one
    (λ c. just-less class c n most few)

pub ruleset sought_laws = (
  sought_then,
  sought_within,
  sought_nothing,
  sought_still,
  sought_won,
  sought_lost,
  sought_more,
  sought_fewer,
)
