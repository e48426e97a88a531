-- Entries whose keys rise are those of a finite map.
use Rattle.std.proofs.Common.{◌≡◌, ℕ, suc, ◌+◌, ◌&&◌, Bool, true, false, cond, T, List, [], ◌∷◌, Option, None, Some}
use Rattle.std.proofs.Common.{map, refl, ap, sym, ◌∙◌, subst, arith}
use Rattle.std.specs.Prelude.{slice_index_or, nat_eq}
use Rattle.std.specs.Global.{Vec}
use Rattle.std.specs.List.{IsDistinct}
use Rattle.std.specs.List.Sorted.{IsSorted}
use Rattle.std.specs.Map.{lookup}
use Rattle.std.specs.Option.{option_map}
use Rattle.std.specs.Ordering.{nat_cmp, eq_by_cmp, is_eq, is_lt, ordering_reverse}
use Rattle.std.specs.Cmp.Lexicographic.{pointwise, slice_cmp, texts_ties, bytes_decides}
use Rattle.std.specs.FinMap as finite
use Rattle.std.specs.FinMap.Entries.{find, below_all, is_sorted, same_entries}
use Rattle.std.specs.declared.cmp.Ordering.{Ordering}
use Rattle.std.specs.declared.cmp.Ordering.TheVariants.{Less, Equal, Greater}
use Rattle.std.proofs.lemmas.Cmp.{nat_list_cmp_total}
use Rattle.key_order.specs.Ascending.{is_stored_key, value_for, pairs_of, IsAscending}

abbrev order : List ℕ → List ℕ → Ordering
order = slice_cmp nat_cmp

abbrev by_items : Vec ℕ → Vec ℕ → Ordering
by_items x y = slice_cmp nat_cmp x.items y.items

abbrev same_items : Vec ℕ → Vec ℕ → Bool
same_items x y = pointwise nat_eq x.items y.items

both : (a b : Bool) → T a → T b → T (a && b)
both true b p q = q
both false b p q = p

first : (a b : Bool) → T (a && b) → T a
first true b p = tt
first false b p = p

second : (a b : Bool) → T (a && b) → T b
second true b p = p
second false b p = absurd p

less : (o : Ordering) → T (is_lt o) → o ≡ Less
less Less p = refl
less Equal p = absurd p
less Greater p = absurd p

lesser : (r s : Ordering) → s ≡ ordering_reverse r → is_lt s ≡ false → is_eq r ≡ false → r ≡ Less
lesser Less s turned not_below apart = refl
lesser Equal s turned not_below apart = absurd (let no : true ≡ false = apart in cc)
lesser Greater s turned not_below apart = absurd (let no : true ≡ false = sym (ap is_lt turned) ∙ not_below in cc)

-- a key that isn't above another, and isn't the same, is below it
below : (x y : Vec ℕ) → is_lt (by_items y x) ≡ false → same_items x y ≡ false → by_items x y ≡ Less
below x y not_below apart =
    lesser (by_items x y) (by_items y x) (nat_list_cmp_total.antisymm y.items x.items) not_below
    (sym (texts_ties x.items y.items) ∙ apart)

sorted_rest : (x : Vec ℕ) (xs : List (Vec ℕ)) → IsSorted by_items (x ∷ xs) → IsSorted by_items xs
sorted_rest x xs sorted = λ k d low high.
    subst (λ (n : ℕ). is_lt (by_items (slice_index_or (x ∷ xs) n d) (slice_index_or xs k d)) ≡ false)
    (let e : suc k + 1 ≡ suc (k + 1) = omega arith in e)
    (sorted (suc k) d (omega arith) (omega (arith, high)))

sorted_first : (x y : Vec ℕ) (ys : List (Vec ℕ)) → IsSorted by_items (x ∷ y ∷ ys) → is_lt (by_items y x) ≡ false
sorted_first x y ys sorted =
    subst (λ (n : ℕ). is_lt (by_items (slice_index_or (x ∷ y ∷ ys) n x) x) ≡ false)
    (let e : 0 + 1 ≡ suc 0 = omega arith in e)
    (sorted 0 x (omega arith) (omega arith))

module _ {X Y : Type 0} (shows : X → Y) where
  below_more : (x y : List ℕ) (pairs : List (List ℕ × Y)) → order x y ≡ Less → T (below_all order y pairs)
      → T (below_all order x pairs)
  below_more x y [] lower all = tt
  below_more x y (p ∷ pairs) lower all =
      both _ _
      (subst (λ (r : Ordering). T (is_lt r))
      (sym (nat_list_cmp_total.trans x y p.0 lower (less _ (first _ _ all)))) tt)
      (below_more x y pairs lower (second _ _ all))

  rises : (es : List (Vec ℕ × X)) → IsSorted by_items (map (λ e. e.0) es) → IsDistinct same_items (map (λ e. e.0) es)
      → T (is_sorted order (pairs_of shows es))
  unfolding IsDistinct
  rises [] sorted distinct = tt
  rises (e ∷ []) sorted distinct = tt
  rises (e ∷ f ∷ es) sorted distinct =
      let rest = rises (f ∷ es) (sorted_rest e.0 (f.0 ∷ map (λ g. g.0) es) sorted) distinct.1 in
      let next : by_items e.0 f.0 ≡ Less =
      below e.0 f.0 (sorted_first e.0 f.0 (map (λ g. g.0) es) sorted) distinct.0.0 in
      both _ _
      (both _ _ (subst (λ (r : Ordering). T (is_lt r)) (sym next) tt)
      (below_more e.0.items f.0.items (pairs_of shows es) next (first _ _ rest))) rest

  finds : (q : List ℕ) (es : List (Vec ℕ × X)) → find order q (pairs_of shows es) ≡ option_map shows (value_for q es)
  finds q [] = refl
  finds q (e ∷ es) =
      by_test (is_stored_key q e.0) (eq_by_cmp order q e.0.items) (texts_ties q e.0.items) (finds q es) where
        by_test : (b c : Bool) → b ≡ c → find order q (pairs_of shows es) ≡ option_map shows (value_for q es)
            → cond c (Some (shows e.1)) (find order q (pairs_of shows es))
            ≡ option_map shows (cond b (Some e.1) (value_for q es))
        by_test true true is rest = refl
        by_test false false is rest = rest
        by_test true false is rest = absurd (cc)
        by_test false true is rest = absurd (cc)

pub ascending : {X : Type 0} (es : List (Vec ℕ × X)) → IsSorted by_items (map (λ e. e.0) es)
    → IsDistinct same_items (map (λ e. e.0) es) → IsAscending es
ascending es sorted distinct = λ shows store same.
    same_entries order nat_list_cmp_total (finite.slice_cmp-IsAntisymmetric finite.nat_cmp-IsAntisymmetric)
    (pairs_of shows es) (finite.entries store)
    (rises shows es sorted distinct) (finite.entries_sorted store)
    (λ q. finds shows q es ∙ same q ∙ finite.get-entries store q)

-- A key among the entries has these bytes.
record HasKey (q : List ℕ) : Type 0 where
  key : Vec ℕ
  items_are : key.items ≡ q

key_found : {X : Type 0} (q : List ℕ) (es : List (Vec ℕ × X)) (v : X) → value_for q es ≡ Some v → HasKey q
key_found q [] v is = absurd (let no : None ≡ Some v = is in cc)
key_found q (e ∷ es) v is = by_test (is_stored_key q e.0) refl is (key_found q es v) where
  by_test : (t : Bool) → is_stored_key q e.0 ≡ t → cond t (Some e.1) (value_for q es) ≡ Some v
      → (value_for q es ≡ Some v → HasKey q) → HasKey q
  by_test true same found rest = record { key = e.0; items_are = sym ((bytes_decides q e.0.items).0 same) }
  by_test false other found rest = rest found

at_key : {X : Type 0} (k : Vec ℕ) (q : List ℕ) → k.items ≡ q → (es : List (Vec ℕ × X))
    → value_for q es ≡ lookup (same_items k) es
at_key k q is es = subst (λ (l : List ℕ). value_for l es ≡ lookup (same_items k) es) is refl

-- what is the same at each stored key is the same at all bytes
pub kept : {X : Type 0} (m n : List (Vec ℕ × X)) → ((k : Vec ℕ) → lookup (same_items k) n ≡ lookup (same_items k) m)
    → (q : List ℕ) → value_for q n ≡ value_for q m
kept {X} m n same q = in_m (value_for q m) refl where
  in_n : (found : Option X) → value_for q n ≡ found → value_for q m ≡ None → value_for q n ≡ value_for q m
  in_n None there here = there ∙ sym here
  in_n (Some v) there here = let k = key_found q n v there in
      at_key k.key q k.items_are n ∙ same k.key ∙ sym (at_key k.key q k.items_are m)

  in_m : (found : Option X) → value_for q m ≡ found → value_for q n ≡ value_for q m
  in_m None here = in_n (value_for q n) refl here
  in_m (Some v) here = let k = key_found q m v here in
      at_key k.key q k.items_are n ∙ same k.key ∙ sym (at_key k.key q k.items_are m)
