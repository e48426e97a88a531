-- How single holds weigh.
use Rattle.std.proofs.Common.{◌≡◌, ℕ, ◌+◌, ◌<◌, ◌≤◌, ◌≢◌, List, [], ◌∷◌, Bool, true, false, cond, ◌&&◌, eqb, ltb, sym}
use Rattle.std.proofs.Common.{refl, ap, ◌∙◌, eq-eqb, ne_eqb, arith}
use mathlib.Core.Logic.{dite}
use native.Mathlib.Decide.{ℕ_discrete}
use Rattle.std.proofs.lemmas.Bool.{lt-ltb, ltb-true, eqb-true, and_parts}
use Rattle.view_sums.proofs.Sums.{total-le, total-add}
use Rattle.pin_core.specs.Buffers.{buffers}
use Rattle.pin_core.specs.Holding.{Holding, at, sole_at, loose_at, pin_of}
use Rattle.pin_core.specs.Pins.{Owned, weigh}
use Rattle.pin_core.specs.Sound.{same_words, misfit}
use Rattle.pin_core.specs.declared.sizes.Sizes.{Sizes}

-- what all holds of a list, or of several lists, add up to
pub record IsWeighing (weighs : (Holding → ℕ) → ℕ) : Type 0 where
  pub le : (f g : Holding → ℕ) → ((h : Holding) → f h ≤ g h) → weighs f ≤ weighs g
  pub add : (f g : Holding → ℕ) → weighs (λ h. f h + g h) ≡ weighs f + weighs g

pub list_weighing : {H : Type 0} (holds : List (Owned H)) → IsWeighing (weigh holds)
list_weighing {H} holds = record {
  le = λ f g below. total-le (λ (o : Owned H). f o.hold) (λ (o : Owned H). g o.hold) (λ o. below o.hold) holds;
  add = λ f g. total-add (λ (o : Owned H). f o.hold) (λ (o : Owned H). g o.hold) holds;
}

-- a hold of the buffer or not
pub at-on : (b : ℕ) (h : Holding) → h.buffer ≡ b → at b h ≡ 1
at-on b h e = ap (λ t. cond t 1 0) (eq-eqb h.buffer b e)

pub at-off : (b : ℕ) (h : Holding) → h.buffer ≢ b → at b h ≡ 0
at-off b h n = ap (λ t. cond t 1 0) (ne_eqb h.buffer b n)

sole_bits : (x y : Bool) → cond x (cond y 1 0) 0 ≤ cond x 1 0
sole_bits true true = omega arith
sole_bits true false = omega arith
sole_bits false y = omega arith

pub sole-at : (b : ℕ) (h : Holding) → sole_at b h ≤ at b h
sole-at b h = sole_bits (eqb h.buffer b) h.exclusive

loose_bits : (x y : Bool) → cond x (cond y 0 1) 0 ≤ cond x 1 0
loose_bits true true = omega arith
loose_bits true false = omega arith
loose_bits false y = omega arith

pub loose-at : (b : ℕ) (h : Holding) → loose_at b h ≤ at b h
loose-at b h = loose_bits (eqb h.buffer b) h.pinned

at_bits : (x y : Bool) → cond x 1 0 ≤ cond y 1 0 + cond x (cond y 0 1) 0
at_bits true true = omega arith
at_bits true false = omega arith
at_bits false true = omega arith
at_bits false false = omega arith

pub at-le : (b : ℕ) (h : Holding) → at b h ≤ pin_of h + loose_at b h
at-le b h = at_bits (eqb h.buffer b) h.pinned

either_same : (x : Bool) (n : ℕ) → cond x n n ≡ n
either_same true n = refl
either_same false n = refl

-- a shared hold is no exclusive one
pub sole-shared : (b : ℕ) (h : Holding) → h.exclusive ≡ false → sole_at b h ≡ 0
sole-shared b h e = ap (λ t. cond (eqb h.buffer b) (cond t 1 0) 0) e ∙ either_same (eqb h.buffer b) 0

pub sole-on : (b : ℕ) (h : Holding) → h.buffer ≡ b → h.exclusive ≡ true → sole_at b h ≡ 1
sole-on b h e x = ap (λ t. cond (eqb h.buffer b) (cond t 1 0) 0) x ∙ at-on b h e

pub loose-pinned : (b : ℕ) (h : Holding) → h.pinned ≡ true → loose_at b h ≡ 0
loose-pinned b h e = ap (λ t. cond (eqb h.buffer b) (cond t 0 1) 0) e ∙ either_same (eqb h.buffer b) 0

-- lists of words
pub same_words-refl : (xs : List ℕ) → same_words xs xs ≡ true
same_words-refl [] = refl
same_words-refl (x ∷ xs) = ap (λ t. t && same_words xs xs) (eq-eqb x x refl) ∙ same_words-refl xs

pub same_words-true : (xs ys : List ℕ) → same_words xs ys ≡ true → xs ≡ ys
same_words-true [] [] e = refl
same_words-true [] (y ∷ ys) e = absurd (cc)
same_words-true (x ∷ xs) [] e = absurd (cc)
same_words-true (x ∷ xs) (y ∷ ys) e =
    let t = and_parts (eqb x y) (same_words xs ys) e in
    ap (λ z. z ∷ xs) (eqb-true x y t.0) ∙ ap (λ zs. y ∷ zs) (same_words-true xs ys t.1)

-- what a hold that fits has
pub record Fits (z : Sizes) (fronts : ℕ → List ℕ) (h : Holding) : Type 0 where
  pub near : h.buffer < buffers z
  pub front_is : h.front ≡ fronts h.buffer

unfit_bit : (t : Bool) → cond t 0 1 ≤ 0 → t ≡ true
unfit_bit true e = refl
unfit_bit false e = absurd (omega arith)

pub fits : (z : Sizes) (fronts : ℕ → List ℕ) (h : Holding) → misfit z fronts h ≡ 0 → Fits z fronts h
fits z fronts h e =
    let t = and_parts (ltb h.buffer (buffers z)) (same_words h.front (fronts h.buffer))
    (unfit_bit (ltb h.buffer (buffers z) && same_words h.front (fronts h.buffer)) (omega (arith, e))) in
    record { near = ltb-true h.buffer (buffers z) t.0; front_is = same_words-true h.front (fronts h.buffer) t.1 }

pub misfit-none : (z : Sizes) (fronts : ℕ → List ℕ) (h : Holding) → Fits z fronts h → misfit z fronts h ≡ 0
misfit-none z fronts h f =
    let same : same_words h.front (fronts h.buffer) ≡ true = ap (λ xs. same_words h.front xs) (sym f.front_is)
    ∙ same_words-refl h.front in
    ap (λ t. cond (t && same_words h.front (fronts h.buffer)) 0 1) (lt-ltb h.buffer (buffers z) f.near)
    ∙ ap (λ t. cond t 0 1) same

bit_le : (t : Bool) → cond t 0 1 ≤ 1
bit_le true = omega arith
bit_le false = omega arith

-- the fronts, but that the buffer b has another
abbrev pub refronted : ℕ → List ℕ → (ℕ → List ℕ) → ℕ → List ℕ
refronted b front fronts c = cond (eqb c b) front (fronts c)

pub refronted-here : (b : ℕ) (front : List ℕ) (fronts : ℕ → List ℕ) (c : ℕ) → c ≡ b → refronted b front fronts c ≡ front
refronted-here b front fronts c e = ap (λ t. cond t front (fronts c)) (eq-eqb c b e)

pub refronted-else : (b : ℕ) (front : List ℕ) (fronts : ℕ → List ℕ) (c : ℕ) → c ≢ b → refronted b front fronts c
    ≡ fronts c
refronted-else b front fronts c n = ap (λ t. cond t front (fronts c)) (ne_eqb c b n)

-- only holds of that buffer can then misfit
pub misfit-refronted : (z : Sizes) (b : ℕ) (front : List ℕ) (fronts : ℕ → List ℕ) (h : Holding)
    → misfit z (refronted b front fronts) h ≤ misfit z fronts h + at b h
misfit-refronted z b front fronts h = dite (ℕ_discrete h.buffer b)
    (λ e. omega (
      arith,
      at-on b h e,
      bit_le
          (ltb h.buffer (buffers z) && same_words h.front (refronted b front fronts h.buffer)),
    ))
    (λ n. omega (
      arith,
      ap {B = ℕ} (λ xs. cond (ltb h.buffer (buffers z) && same_words h.front xs) 0 1)
          (refronted-else b front fronts h.buffer n),
    ))

sole_bit : (x y : Bool) → 0 < cond x (cond y 1 0) 0 → y ≡ true
sole_bit true true some = refl
sole_bit true false some = absurd (omega arith)
sole_bit false y some = absurd (omega arith)

pub sole-true : (b : ℕ) (h : Holding) → 0 < sole_at b h → h.exclusive ≡ true
sole-true b h e = sole_bit (eqb h.buffer b) h.exclusive e
