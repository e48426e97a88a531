-- Fragments behind those of a value, whose first one is kept apart.
use Rattle.std.proofs.Common.{◌≡◌, ℕ, ◌+◌, ◌*◌, ◌<◌, ◌≤◌, List, [], ◌∷◌, ◌++◌, Option, None, Some, Bool, true, cond}
use Rattle.std.proofs.Common.{length, refl, sym, ap, ◌∙◌, append_assoc, length-append, arith}
use Rattle.std.specs.List.{cons_option}
use Rattle.std.specs.Option.{IsNone}
use Rattle.pin_core.specs.declared.sizes.Sizes.{Sizes}
use Rattle.frag_value.specs.Values.{IsValue, size_of}
use Rattle.frag_value.proofs.Cuts.{AreFull, size-append, cut-count}
use Rattle.frag_value.proofs.Ends.{value-behind}

module _ {A : Type 0} where
  pub cons-append : (first : Option A) (xs ys : List A) → cons_option first (xs ++ ys) ≡ cons_option first xs ++ ys
  cons-append None xs ys = refl
  cons-append (Some x) xs ys = refl

  pub length-first : (first : Option A) (rest : List A) → (IsNone first → rest ≡ [])
      → 0 < length (cons_option first rest) → length (cons_option first rest) ≡ length rest + 1
  length-first None rest none some = absurd (omega (arith, some, ap length (none refl)))
  length-first (Some x) rest none some = omega arith

  pub first-some : (first : Option A) (rest more : List A) → (IsNone first → rest ≡ [])
      → 0 < length (cons_option first rest) → IsNone first → more ≡ []
  first-some None rest more none some e = absurd (omega (arith, some, ap length (none refl)))
  first-some (Some x) rest more none some e = absurd (cc)

  -- two lists were put behind an empty one, and an item between them
  pub all_put : {ok too : Bool} (none front back one two all : List A) (x : A) → ok ≡ true → too ≡ true → none ≡ []
      → one ≡ cond ok (none ++ front) none → two ≡ one ++ x ∷ [] → all ≡ cond too (two ++ back) two
      → all ≡ (front ++ x ∷ []) ++ back
  all_put none front back one two all x ok too empty one_is two_is all_is =
      let first : one ≡ front = one_is ∙ ap (λ t. cond t (none ++ front) none) ok ∙ ap (λ l. l ++ front) empty in
      all_is ∙ ap (λ t. cond t (two ++ back) two) too ∙ ap (λ l. l ++ back) (two_is ∙ ap (λ l. l ++ x ∷ []) first)

  pub joined-items : (first middle : Option A) (front back : List A) (x : A) → middle ≡ Some x
      → cons_option first ((front ++ x ∷ []) ++ back) ≡ cons_option first front ++ cons_option middle back
  joined-items first middle front back x is = ap (cons_option first) (append_assoc front (x ∷ []) back)
      ∙ cons-append first front (x ∷ back) ∙ ap (λ o. cons_option first front ++ cons_option o back) (sym is)

-- there is room for all of them
pub room_for : (z : Sizes) (v w : List (ℕ × ℕ)) (n : ℕ) → IsValue z v → IsValue z w → AreFull v
    → size_of v + size_of w ≤ 65536 → size_of v + size_of w ≤ 4096 * (n + 1) → length v + length w ≤ n + 1
room_for z v w n is iw full few fits =
    let whole = value-behind z v w is iw full few in
    omega (arith, (cut-count (size_of (v ++ w)) (v ++ w) whole.cut).1, length-append v w, size-append v w, fits)

pub full-size : (v : List (ℕ × ℕ)) → AreFull v → size_of v ≡ 4096 * length v
full-size [] full = refl
full-size (p ∷ v) full = omega (arith, full.0, full-size v full.1)
