-- Sums over the numbers of a range, and over the buffers of a class.
use Rattle.std.proofs.Common.{◌≡◌, ℕ, zero, suc, ◌+◌, ◌<◌, ◌≤◌, true, false, cond, nat_lt, List, [], ◌∷◌}
use Rattle.std.proofs.Common.{refl, ap, sym, ◌∙◌, ⊎_elim, eq-eqb, ne_eqb, arith}
use Rattle.std.proofs.lemmas.Bool.{lt-ltb, ltb-true, false_from_ne_true, cases_lt}
use mathlib.Core.Logic.{dite}
use native.Mathlib.Decide.{ℕ_discrete}
use Rattle.view_sums.specs.Total.{total, same}
use Rattle.pin_core.specs.Buffers.{buffers}
use Rattle.pin_core.specs.declared.sizes.Sizes.{Sizes}
use Rattle.pin_core.specs.declared.class.Class.{Class}
use Rattle.pin_core.specs.declared.class.Class.TheVariants.{Small, Large}
use Rattle.pinned_pool.specs.Claims.{class_start, count_of}
use Rattle.pinned_pool.specs.Classes.{class_at, just}

-- f of each of n numbers from the first one on, added up
abbrev pub sum_from : (ℕ → ℕ) → ℕ → ℕ → ℕ
sum_from f first zero = 0
sum_from f first (suc n) = sum_from f first n + f (first + n)

pub sum_from-cong : (f g : ℕ → ℕ) (first n : ℕ) → ((b : ℕ) → first ≤ b → b < first + n → f b ≡ g b)
    → sum_from f first n ≡ sum_from g first n
sum_from-cong f g first zero e = refl
sum_from-cong f g first (suc n) e = omega (
  arith,
  e (first + n) (omega arith) (omega arith),
  sum_from-cong f g first n (λ b from to. e b from (omega arith)),
)

pub sum_from-most : (f : ℕ → ℕ) (first n : ℕ) → ((b : ℕ) → first ≤ b → b < first + n → 0 < f b) → n ≤ sum_from f first n
sum_from-most f first zero some = omega arith
sum_from-most f first (suc n) some = omega (
  arith,
  some (first + n) (omega arith) (omega arith),
  sum_from-most f first n (λ b from to. some b from (omega arith)),
)

sum_from-add : (f g : ℕ → ℕ) (first n : ℕ) → sum_from (λ b. f b + g b) first n ≡ sum_from f first n + sum_from g first n
sum_from-add f g first zero = refl
sum_from-add f g first (suc n) = omega (arith, sum_from-add f g first n)

sum_from-zero : (first n : ℕ) → sum_from (λ _. 0) first n ≡ 0
sum_from-zero first zero = refl
sum_from-zero first (suc n) = omega (arith, sum_from-zero first n)

-- sums change places
pub sum_from-total : {A : Type 0} (f : A → ℕ → ℕ) (xs : List A) (first n : ℕ)
    → sum_from (λ b. total (λ x. f x b) xs) first n ≡ total (λ x. sum_from (f x) first n) xs
sum_from-total f [] first n = sum_from-zero first n
sum_from-total f (x ∷ xs) first n = omega (
  arith,
  sum_from-add (f x) (λ b. total (λ y. f y b) xs) first n,
  sum_from-total f xs first n,
)

not_here : (m n : ℕ) → (m ≡ n → ⊥) → same m n ≡ 0
not_here m n ne = ap (λ t. cond t 1 0) (ne_eqb m n ne)

here : (m n : ℕ) → m ≡ n → same m n ≡ 1
here m n e = ap (λ t. cond t 1 0) (eq-eqb m n e)

sum_same-none : (c first n : ℕ) → ((b : ℕ) → first ≤ b → b < first + n → c ≡ b → ⊥) → sum_from (same c) first n ≡ 0
sum_same-none c first zero none = refl
sum_same-none c first (suc n) none = omega (
  arith,
  not_here c (first + n)
      (none (first + n) (omega arith) (omega arith)),
  sum_same-none c first n (λ b from to. none b from (omega arith)),
)

sum_same-one : (c first n : ℕ) → first ≤ c → c < first + n → sum_from (same c) first n ≡ 1
sum_same-one c first zero from to = absurd (let no : ⊥ = omega arith in no)
sum_same-one c first (suc n) from to = dite (ℕ_discrete c (first + n))
    (λ e. let none = sum_same-none c first n (λ b low high is. omega arith) in
    omega (arith, here c (first + n) e, none))
    (λ ne. let rest = sum_same-one c first n from (omega (arith, ne)) in omega (arith, not_here c (first + n) ne, rest))

-- 1 for a buffer of the class
abbrev pub one_in : Sizes → Class → ℕ → ℕ
one_in z class b = just (class_at z b) 1 class

class_small : (z : Sizes) (b : ℕ) → b < z.small → class_at z b ≡ Small
class_small z b less = let yes : nat_lt b z.small ≡ true = lt-ltb b z.small less in rw yes refl

class_large : (z : Sizes) (b : ℕ) → z.small ≤ b → class_at z b ≡ Large
class_large z b more = let no : nat_lt b z.small ≡ false =
    false_from_ne_true _ (λ is. let less : b < z.small = ltb-true b z.small is in omega arith) in rw no refl

-- the buffers of a class are those of its range
pub class_of_range : (z : Sizes) (class : Class) (b : ℕ) → class_start z class ≤ b
    → b < class_start z class + count_of z class → class_at z b ≡ class
class_of_range z Small b from to = class_small z b (omega arith)
class_of_range z Large b from to = class_large z b (omega arith)

pub range_below : (z : Sizes) (class : Class) (b : ℕ) → class_start z class ≤ b → b < class_start z class
    + count_of z class
    → b < buffers z
range_below z Small b from to = omega arith
range_below z Large b from to = omega arith

one_small : (z : Sizes) (class : Class) (c : ℕ) → class_at z c ≡ Small → one_in z class c ≡ just Small 1 class
one_small z class c is = ap (λ k. just k 1 class) is

one_large : (z : Sizes) (class : Class) (c : ℕ) → class_at z c ≡ Large → one_in z class c ≡ just Large 1 class
one_large z class c is = ap (λ k. just k 1 class) is

-- a buffer of the pool is one of its class's range, and of no other
pub range_one : (z : Sizes) (class : Class) (c : ℕ) → c < buffers z
    → sum_from (same c) (class_start z class) (count_of z class) ≡ one_in z class c
range_one z Small c below = ⊎_elim
    (λ less. sum_same-one c 0 z.small (omega arith) (omega arith) ∙ sym (one_small z Small c (class_small z c less)))
    (λ more. sum_same-none c 0 z.small (λ b from to is. omega arith) ∙ sym (one_large z Small c (class_large z c more)))
    (cases_lt c z.small)
range_one z Large c below = ⊎_elim
    (λ less. sum_same-none c z.small z.large (λ b from to is. omega arith)
    ∙ sym (one_small z Large c (class_small z c less)))
    (λ more. sum_same-one c z.small z.large more below ∙ sym (one_large z Large c (class_large z c more)))
    (cases_lt c z.small)

-- any number stands at most once in the range of its class
pub range_most : (z : Sizes) (class : Class) (c : ℕ) → sum_from (same c) (class_start z class) (count_of z class)
    ≤ one_in z class c
range_most z class c = ⊎_elim
    (λ below. omega (arith, range_one z class c below))
    (λ past. omega (
      arith,
      sum_same-none c (class_start z class) (count_of z class)
          (λ b from to is. omega (arith, range_below z class b from to)),
    ))
    (cases_lt c (buffers z))
