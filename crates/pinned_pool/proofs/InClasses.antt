-- The buffers of a class, and the looks of a claim that found none of them free.
use Rattle.std.proofs.Common.{◌≡◌, ◌≢◌, ℕ, ◌+◌, ◌<◌, ◌≤◌, ◌⊎◌, inl, inr, List, ◌++◌, cond, sym, refl, ap, ◌∙◌}
use Rattle.std.proofs.Common.{lt_of_not-le, arith}
use mathlib.Core.Logic.{dite}
use native.Mathlib.Decide.{dec_le}
use Rattle.std.proofs.lemmas.Bool.{lt-ltb, le-ltb}
use Rattle.view_sums.specs.Total.{same}
use Rattle.view_sums.proofs.Sums.{total-append}
use Rattle.pin_core.specs.Buffers.{buffers}
use Rattle.pin_core.specs.declared.sizes.Sizes.{Sizes}
use Rattle.pin_core.specs.declared.class.Class.{Class}
use Rattle.pin_core.specs.declared.class.Class.TheVariants.{Small, Large}
use Rattle.pinned_pool.specs.Views.{looked_at}
use Rattle.pinned_pool.specs.Claims.{class_start, count_of, Passed}
use Rattle.pinned_pool.specs.Classes.{class_at, just, buffers_in}
use Rattle.pinned_pool.specs.declared.view.View.{View}
use Rattle.pinned_pool.proofs.AfterSteps.{looks-once}

small_at : (z : Sizes) (b : ℕ) → b < z.small → class_at z b ≡ Small
small_at z b less = ap (λ t. cond t Small Large) (lt-ltb b z.small less)

large_at : (z : Sizes) (b : ℕ) → z.small ≤ b → class_at z b ≡ Large
large_at z b more = ap (λ t. cond t Small Large) (le-ltb b z.small more)

-- a buffer in the range of a class
pub in_class : (z : Sizes) (class : Class) (b : ℕ) → class_start z class ≤ b → b < class_start z class
    + count_of z class → (b < buffers z) × (class_at z b ≡ class)
in_class z Small b low high = (omega (arith, high), small_at z b (omega (arith, high)))
in_class z Large b low high = (omega (arith, high), large_at z b low)

pub in_range : (z : Sizes) (class : Class) (b : ℕ) → b < buffers z → class_at z b ≡ class → (class_start z class ≤ b)
    × (b < class_start z class + count_of z class)
in_range z Small b near at = dite (dec_le z.small b)
    (λ more. let e = sym (large_at z b more) ∙ at in absurd (cc))
    (λ less. (omega arith, omega (arith, lt_of_not-le less)))
in_range z Large b near at = dite (dec_le z.small b)
    (λ more. (more, omega arith))
    (λ less. let e = sym (small_at z b (lt_of_not-le less)) ∙ at in absurd (cc))

pub looked-append : (b : ℕ) (ls ms : List (ℕ × ℕ)) → looked_at b (ls ++ ms) ≡ looked_at b ls + looked_at b ms
looked-append b ls ms = total-append (λ (l : ℕ × ℕ). same l.0 b) ls ms

-- looks that only grew
pub looked-more : (b : ℕ) (u w : View) (more : List (ℕ × ℕ)) → w.looks ≡ u.looks ++ more
    → looked_at b u.looks ≤ looked_at b w.looks
looked-more b u w more grew = omega (arith, ap (looked_at b) grew, looked-append b u.looks more)

-- each buffer of a stretch was looked at once more
pub found_in : (first count : ℕ) (v w : View) → Passed first count v w → (b : ℕ) → first ≤ b → b < first + count
    → looked_at b v.looks < looked_at b w.looks
found_in first count v w passed b low high =
    let once = looks-once first b passed.looks passed.from low (omega (arith, high, passed.count)) in
    omega (arith, once, ap (looked_at b) (ap (λ (x : View). x.looks) passed.seat), looked-append b v.looks passed.looks)

-- and so was each buffer of a class
pub found_each : (z : Sizes) (class : Class) (v w : View) → Passed (class_start z class) (count_of z class) v w
    → (b : ℕ) → b < buffers z → class_at z b ≡ class → looked_at b v.looks < looked_at b w.looks
found_each z class v w passed b near at =
    let range = in_range z class b near at in
    found_in (class_start z class) (count_of z class) v w passed b range.0 range.1

-- how many are of a class
pub buffers-append : (z : Sizes) (class : Class) (xs ys : List ℕ) → buffers_in z class (xs ++ ys)
    ≡ buffers_in z class xs + buffers_in z class ys
buffers-append z class xs ys = total-append (λ (b : ℕ). just (class_at z b) 1 class) xs ys

pub decide : (c d : Class) → (d ≡ c) ⊎ (d ≢ c)
decide Small Small = inl refl
decide Small Large = inr (λ e. let no : ⊥ = cc in no)
decide Large Small = inr (λ e. let no : ⊥ = cc in no)
decide Large Large = inl refl

pub just-here : (c : Class) (n : ℕ) → just c n c ≡ n
just-here Small n = refl
just-here Large n = refl

pub just-else : (c d : Class) (n : ℕ) → d ≢ c → just c n d ≡ 0
just-else Small Small n away = absurd (away refl)
just-else Small Large n away = refl
just-else Large Small n away = refl
just-else Large Large n away = absurd (away refl)

pub just-add : (c d : Class) (n m : ℕ) → just c (n + m) d ≡ just c n d + just c m d
just-add Small Small n m = refl
just-add Small Large n m = refl
just-add Large Small n m = refl
just-add Large Large n m = refl

pub just-most : (c d : Class) (n : ℕ) → just c n d ≤ n
just-most Small Small n = omega arith
just-most Small Large n = omega arith
just-most Large Small n = omega arith
just-most Large Large n = omega arith

pub just-less : (c d : Class) (n m : ℕ) → n ≤ m → just c n d ≤ just c m d
just-less Small Small n m less = less
just-less Small Large n m less = omega arith
just-less Large Small n m less = omega arith
just-less Large Large n m less = less

pub just-both : (c : Class) (n : ℕ) → just c n Small + just c n Large ≡ n
just-both Small n = omega arith
just-both Large n = omega arith

pub ruleset classes = (
  in_class,
  in_range,
  looked-append,
  looked-more,
  found_in,
  found_each,
  buffers-append,
  just-here,
  just-else,
  just-add,
  just-most,
  just-less,
  just-both,
)
