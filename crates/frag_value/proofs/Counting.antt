-- How many fragments of each class some bytes have.
use Rattle.std.proofs.Common.{◌≡◌, ℕ, zero, suc, ◌+◌, ◌-◌, ◌*◌, ◌/◌, ◌%◌, ◌<◌, ◌≤◌, min, Bool, true, false, cond, eqb}
use Rattle.std.proofs.Common.{List, [], ◌∷◌, ◌++◌, length, drop, sym, refl, ap, ◌∙◌, eq-eqb, ne_eqb, length-append}
use Rattle.std.proofs.Common.{lt_of_not-le, arith}
use mathlib.Core.Logic.{dite}
use native.Mathlib.Decide.{ℕ_discrete, dec_le}
use Rattle.std.proofs.lemmas.List.{length-take, length-drop}
use Rattle.view_sums.specs.Total.{total}
use Rattle.pin_core.specs.Holding.{Holding}
use Rattle.pin_core.specs.declared.sizes.Sizes.{Sizes}
use Rattle.pin_core.specs.declared.class.Class.{Class}
use Rattle.pin_core.specs.declared.class.Class.TheVariants.{Small, Large}
use Rattle.pinned_pool.specs.Classes.{just}
use Rattle.pinned_pool.proofs.InClasses.{just-add, just-most}
use Rattle.frag_value.specs.Fragments.{pieces, stored_fragments, class_for, fragments_in}
use Rattle.frag_value.specs.Values.{IsCut, IsValue, HasValue, size_of, partial_of, whole_fragments, value_bytes}
use Rattle.frag_value.specs.Changes.{anew}
use Rattle.frag_value.specs.Counts.{class_buffers_for, FragmentsAreCounted}
use Rattle.frag_value.proofs.Cuts.{parts, size-cut, length-bytes-value}
use Rattle.frag_value.proofs.Ends.{has_part}

-- a class by a fragment's length
full_class : (n : ℕ) → n ≡ 4096 → class_for n ≡ Large
full_class n e = ap class_for e

-- bytes in no more than one fragment, and with one more full fragment
abbrev rest_of : Class → ℕ → ℕ
rest_of class n = cond (eqb n 0) 0 (just (class_for n) 1 class)

buffers_short : (class : Class) (n : ℕ) → 0 < n → n < 4096 → class_buffers_for class n ≡ just (class_for n) 1 class
buffers_short class n some less =
    let none : n / 4096 ≡ 0 = omega (arith, less) in
    let same : n % 4096 ≡ n = omega (arith, less) in
    let empty : just Large 0 class ≡ 0 = none_of class in
    omega (
      arith,
      empty,
      ap (λ k. just Large k class) none,
      ap (rest_of class) same,
      ap {B = ℕ}
          (λ t. cond t 0 (just (class_for n) 1 class)) (ne_eqb n 0 (λ e. absurd (omega (arith, e, some)))),
    )
  where
    none_of : (c : Class) → just Large 0 c ≡ 0
    none_of Small = refl
    none_of Large = refl

buffers_full : (class : Class) (n : ℕ) → 4096 ≤ n → class_buffers_for class n ≡ just Large 1 class
    + class_buffers_for class (n - 4096)
buffers_full class n full =
    let more : n / 4096 ≡ 1 + (n - 4096) / 4096 = omega (arith, full) in
    let same : n % 4096 ≡ (n - 4096) % 4096 = omega (arith, full) in
    omega (
      arith,
      ap (λ k. just Large k class) more,
      just-add Large class 1 ((n - 4096) / 4096),
      ap
          (rest_of class) same,
    )

pub buffers-none : (class : Class) → class_buffers_for class 0 ≡ 0
buffers-none Small = refl
buffers-none Large = refl

-- the first fragment of some bytes, and the others
pub buffers-more : (class : Class) (n : ℕ) → 0 < n → class_buffers_for class n ≡ just (class_for (min 4096 n)) 1 class
    + class_buffers_for class (n - 4096)
buffers-more class n some = dite (dec_le 4096 n)
    (λ full. let e : 4096 ≡ min 4096 n = omega (arith, full) in buffers_full class n full
    ∙ ap (λ m. just (class_for m) 1 class + class_buffers_for class (n - 4096)) e)
    (λ less.
    let short : n ≡ min 4096 n = omega (arith, lt_of_not-le less) in
    let none : n - 4096 ≡ 0 = omega (arith, lt_of_not-le less) in
    omega (
      arith,
      buffers_short class n some (lt_of_not-le less),
      ap {B = ℕ} (λ m. just (class_for m) 1 class) short,
      ap
          (class_buffers_for class) none,
      buffers-none class,
    ))

-- by the fragments of a cut
pub count-cut : (class : Class) (n : ℕ) (v : List (ℕ × ℕ)) → IsCut n v
    → total (λ (p : ℕ × ℕ). just (class_for p.1) 1 class) v ≡ class_buffers_for class n
count-cut class n [] cut = sym (buffers-none class) ∙ ap (class_buffers_for class) (sym cut)
count-cut class n (p ∷ v) cut =
    omega (
      arith,
      buffers-more class n cut.0,
      ap {B = ℕ} (λ m. just (class_for m) 1 class) cut.1,
      count-cut class
          (n - 4096) v cut.2,
    )

-- by bytes
count-pieces : (class : Class) (k : ℕ) (bytes : List ℕ) → length bytes ≤ 4096 * k → 4096 * k < length bytes + 4096
    → fragments_in class (pieces k bytes) ≡ class_buffers_for class (length bytes)
count-pieces class zero bytes all few = let none : 0 ≡ length bytes = omega (arith, all) in sym (buffers-none class)
    ∙ ap (class_buffers_for class) none
count-pieces class (suc k) bytes all few =
    let rest = count-pieces class k (drop 4096 bytes) (omega (arith, all, length-drop 4096 bytes))
    (omega (arith, few, length-drop 4096 bytes)) in
    omega (
      arith,
      rest,
      buffers-more class (length bytes) (omega (arith, few)),
      ap {B = ℕ} (λ m. just (class_for m) 1 class) (length-take 4096 bytes),
      ap (class_buffers_for class) (length-drop 4096 bytes),
    )

pub count-bytes : (class : Class) (bytes : List ℕ) → fragments_in class (stored_fragments bytes)
    ≡ class_buffers_for class (length bytes)
count-bytes class bytes = count-pieces class ((length bytes + 4095) / 4096) bytes (omega arith) (omega arith)

-- the bytes that an append cuts anew
pub length-anew : (z : Sizes) (hs : List Holding) (v : List (ℕ × ℕ)) → IsValue z v → HasValue hs v
    → length (value_bytes hs (partial_of v)) ≡ size_of v % 4096
length-anew z hs v is has =
    let all = parts (size_of v) v is.cut in
    length-bytes-value hs (partial_of v) (has_part hs v (whole_fragments v) (partial_of v) all.whole has).1.filled
    ∙ size-cut (size_of v % 4096) (partial_of v) all.cut

pub count-anew : (z : Sizes) (class : Class) (hs : List Holding) (v : List (ℕ × ℕ)) (bytes : List ℕ) → IsValue z v
    → HasValue hs v → fragments_in class (anew hs v bytes) ≡ class_buffers_for class (size_of v % 4096 + length bytes)
count-anew z class hs v bytes is has =
    let long : length (value_bytes hs (partial_of v) ++ bytes) ≡ size_of v % 4096 + length bytes =
    omega (arith, length-append (value_bytes hs (partial_of v)) bytes, length-anew z hs v is has) in
    count-bytes class (value_bytes hs (partial_of v) ++ bytes) ∙ ap (class_buffers_for class) long

-- how many there are at most
rest_small : (c : Class) (t : Bool) → cond t 0 (just c 1 Small) ≤ 1
rest_small c true = omega arith
rest_small c false = just-most c Small 1

pub count-small : (n : ℕ) → class_buffers_for Small n ≤ 1
count-small n = omega (arith, rest_small (class_for (n % 4096)) (eqb (n % 4096) 0))

one_of : (c : Class) → just c 1 Small + just c 1 Large ≡ 1
one_of Small = refl
one_of Large = refl

pub count-all : (n : ℕ) → class_buffers_for Small n + class_buffers_for Large n ≡ (n + 4095) / 4096
count-all n = dite (ℕ_discrete (n % 4096) 0)
    (λ e. omega (
      arith,
      e,
      ap {B = ℕ} (λ t. cond t 0 (just (class_for (n % 4096)) 1 Small)) (eq-eqb (n % 4096) 0 e),
      ap
          {B = ℕ} (λ t. cond t 0 (just (class_for (n % 4096)) 1 Large)) (eq-eqb (n % 4096) 0 e),
    ))
    (λ ne. omega (
      arith,
      ne,
      ap {B = ℕ} (λ t. cond t 0 (just (class_for (n % 4096)) 1 Small)) (ne_eqb (n % 4096) 0 ne),
      ap {B = ℕ} (λ t. cond t 0 (just (class_for (n % 4096)) 1 Large)) (ne_eqb (n % 4096) 0 ne),
      one_of (class_for (n % 4096)),
    ))

pub count-most : (n : ℕ) → n ≤ 65536 → class_buffers_for Small n + class_buffers_for Large n ≤ 16
count-most n few = omega (arith, count-all n, few)

pub count-appended : (k n : ℕ) → k < 4096 → class_buffers_for Large (k + n) ≤ (n + 8190) / 4096
count-appended k n less = omega (arith, count-all (k + n), less)

pub fragments_are_counted : FragmentsAreCounted
fragments_are_counted = record {
  of_bytes = count-bytes;
  of_append = count-anew;
  all = count-all;
  few_small = count-small;
  most = count-most;
  most_appended = count-appended;
}

-- what to give to `search`, `simp` or `grind`
pub ruleset counts = (
  buffers-none,
  buffers-more,
  count-cut,
  count-bytes,
  length-anew,
  count-anew,
  count-small,
  count-all,
  count-most,
  count-appended,
)
