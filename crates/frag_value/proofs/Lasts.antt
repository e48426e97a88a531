-- A value without its last fragment.
use Rattle.std.proofs.Common.{◌≡◌, ℕ, ◌+◌, ◌-◌, ◌≤◌, List, [], ◌∷◌, ◌++◌, Option, None, Some, length, refl, sym, ap}
use Rattle.std.proofs.Common.{◌∙◌, subst, append-nil, length-append, arith}
use Rattle.std.specs.List.{cons_option}
use Rattle.std.specs.Option.{IsNone}
use Rattle.std.proofs.lemmas.List.{nil_from_length}
use Rattle.view_sums.proofs.Eachs.{each-front}
use Rattle.pin_core.specs.declared.sizes.Sizes.{Sizes}
use Rattle.frag_value.specs.Values.{IsCut, IsPlaced, IsValueOf, size_of}

-- x came out of the end of a list, whose first item is kept apart
pub record IsLast {A : Type 0} (first : Option A) (rest : List A) (x : A) (one : Option A) (more : List A) : Type 0
  where
    pub whole : cons_option first rest ≡ cons_option one more ++ x ∷ []
    pub none : IsNone one → more ≡ []

module _ {A : Type 0} where
  pub last_of_rest : (first : Option A) (rest more : List A) (x : A) → (IsNone first → rest ≡ [])
      → rest ≡ more ++ x ∷ [] → IsLast first rest x first more
  last_of_rest None rest more x none e =
      absurd (omega (arith, ap length (none refl), ap length e, length-append more (x ∷ [])))
  last_of_rest (Some y) rest more x none e = record { whole = ap (λ l. y ∷ l) e; none = λ no. absurd (cc) }

  pub last_is_first : (rest more : List A) (x : A) → rest ≡ [] → more ≡ [] → IsLast (Some x) rest x None more
  last_is_first rest more x e f = record { whole = ap (λ l. x ∷ l) e ∙ sym (ap (λ l. l ++ x ∷ []) f); none = λ no. f }

-- a cut without its last fragment
pub cut-front : (n : ℕ) (v : List (ℕ × ℕ)) (p : ℕ × ℕ) → IsCut n (v ++ p ∷ []) → IsCut (size_of v) v
    × (size_of v + p.1 ≡ n)
cut-front n [] p cut = (refl, omega (arith, cut.1, cut.2))
cut-front n (q ∷ v) p cut =
    let rest = cut-front (n - 4096) v p cut.2 in
    let more : 4096 ≤ n = some v cut.2 in
    let less : size_of v ≡ size_of (q ∷ v) - 4096 = omega (arith, cut.1, more) in (
      (omega (arith, cut.0, cut.1), omega (arith, cut.1, more), subst (λ m. IsCut m v) less rest.0),
      omega
          (arith, cut.1, more, rest.1),
    )
  where
    some : (w : List (ℕ × ℕ)) → IsCut (n - 4096) (w ++ p ∷ []) → 4096 ≤ n
    some [] c = omega (arith, c.0)
    some (r ∷ w) c = omega (arith, c.0)

pub value-front : (z : Sizes) (n : ℕ) (v : List (ℕ × ℕ)) (p : ℕ × ℕ) → IsValueOf z n (v ++ p ∷ [])
    → IsValueOf z (n - p.1) v × (p.1 ≤ n)
value-front z n v p is =
    let front = cut-front (size_of (v ++ p ∷ [])) v p is.value.cut in (
      record {
        value = record {
          cut = front.0;
          limit = omega (arith, front.1, is.value.limit);
          placed = each-front (IsPlaced z) v (p ∷ []) is.value.placed;
        };
        size = omega (arith, front.1, is.size);
      },
      omega (arith, front.1, is.size),
    )

module _ {A : Type 0} where
  -- the last item came out of the rest, or was the first
  pub out_of_rest : (first one : Option A) (rest popped more : List A) (x y : A) → (IsNone first → rest ≡ [])
      → rest ≡ popped ++ y ∷ [] → x ≡ y → one ≡ first → more ≡ popped → IsLast first rest x one more
  out_of_rest first one rest popped more x y none e is same left =
      subst (λ o. IsLast first rest x o more) (sym same)
      (last_of_rest first rest more x none (e ∙ (λ i. sym left i ++ sym is i ∷ [])))

  pub out_of_first : (first one : Option A) (rest popped more : List A) (x y : A) → first ≡ Some y → rest ≡ popped ++ []
      → length rest ≡ 0 → x ≡ y → one ≡ None → more ≡ popped → IsLast first rest x one more
  out_of_first first one rest popped more x y some e empty is none left =
      let all : rest ≡ [] = nil_from_length rest empty in
      let yes : first ≡ Some x = some ∙ ap Some (sym is) in
      subst (λ f. IsLast f rest x one more) (sym yes) (subst (λ o. IsLast (Some x) rest x o more) (sym none)
      (last_is_first rest more x all (left ∙ sym (append-nil popped) ∙ sym e ∙ all)))
