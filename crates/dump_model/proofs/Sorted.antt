-- A store in ascending order of its keys: each pair is found at its key, and SETs in this order build the store again.
use Rattle.std.proofs.Common.{◌≡◌, ℕ, ◌&&◌, Bool, true, false, cond, T, List, [], ◌∷◌, ◌++◌, None, Some}
use Rattle.std.proofs.Common.{refl, ap, sym, ◌∙◌, subst, append_assoc, append-nil}
use Rattle.std.specs.List.{AllByRecursion}
use Rattle.std.specs.Ordering.{nat_cmp, is_eq, is_lt, ordering_reverse}
use Rattle.std.specs.Cmp.{tied_itself}
use Rattle.std.specs.Cmp.Lexicographic.{slice_cmp}
use Rattle.std.specs.FinMap as finite
use Rattle.std.specs.FinMap.Entries.{find, below_all, is_sorted}
use Rattle.std.specs.declared.cmp.Ordering.{Ordering}
use Rattle.std.specs.declared.cmp.Ordering.TheVariants.{Less, Equal, Greater}
use Rattle.std.proofs.lemmas.Cmp.{nat_list_cmp_total}
use Rattle.flake_model.specs.Store.{Store}
use Rattle.dump_model.specs.Dump.{Pair, pairs_in}

first : (a b : Bool) → T (a && b) → T a
first true b p = tt
first false b p = p

second : (a b : Bool) → T (a && b) → T b
second true b p = p
second false b p = absurd p

less : (o : Ordering) → T (is_lt o) → o ≡ Less
less Less p = refl
less Equal p = absurd p
less Greater p = absurd p

abbrev order : List ℕ → List ℕ → Ordering
order = slice_cmp nat_cmp

above : (key other : List ℕ) → T (is_lt (order key other)) → order other key ≡ Greater
above key other below = nat_list_cmp_total.antisymm other key ∙ ap ordering_reverse (less _ below)

-- a key that is above all others is none of them
not_among : (pre rest : List Pair) (key value : List ℕ) → T (is_sorted order (pre ++ (key, value) ∷ rest))
    → find order key pre ≡ None
not_among [] rest key value sorted = refl
not_among (e ∷ pre) rest key value sorted =
    ap (λ r. cond (is_eq r) (Some e.1) (find order key pre)) (above e.0 key (below pre (first _ _ sorted)))
    ∙ not_among pre rest key value (second _ _ sorted) where
      below : (some : List Pair) → T (below_all order e.0 (some ++ (key, value) ∷ rest)) → T (is_lt (order e.0 key))
      below [] h = first _ _ h
      below (d ∷ some) h = below some (second _ _ h)

-- a SET for each of these, in order
abbrev pub sets : Store → List Pair → Store
sets store [] = store
sets store (pair ∷ pairs) = sets (finite.insert store pair.0 pair.1) pairs

same_keys : finite.IsAntisymmetric order
same_keys = finite.slice_cmp-IsAntisymmetric finite.nat_cmp-IsAntisymmetric

sets_are : (pre pairs : List Pair) → T (is_sorted order (pre ++ pairs))
    → sets (finite.from_entries {R = order} pre) pairs ≡ finite.from_entries {R = order} (pre ++ pairs)
sets_are pre [] sorted = ap (λ (es : List Pair). finite.from_entries {R = order} es) (sym (append-nil pre))
sets_are pre (e ∷ pairs) sorted =
    ap (λ (store : Store). sets store pairs)
    (sym (finite.from_entries_push nat_list_cmp_total same_keys pre e.0 e.1 (not_among pre pairs e.0 e.1 sorted)))
    ∙ sets_are (pre ++ e ∷ []) pairs
    (subst (λ (es : List Pair). T (is_sorted order es)) (sym (append_assoc pre (e ∷ []) pairs)) sorted)
    ∙ ap (λ (es : List Pair). finite.from_entries {R = order} es) (append_assoc pre (e ∷ []) pairs)

-- so a store is built again by SETs of its pairs
pub rebuilt : (store : Store) → sets finite.empty (pairs_in store) ≡ store
rebuilt store =
    sets_are [] (finite.entries store) (finite.entries_sorted store)
    ∙ finite.same_map nat_list_cmp_total same_keys (finite.from_entries {R = order} (finite.entries store)) store
    (λ q. finite.get-from_entries nat_list_cmp_total (finite.entries store) q ∙ sym (finite.get-entries store q))

abbrev IsFound : List Pair → Pair → Type 0
IsFound all pair = find order pair.0 all ≡ Some pair.1

behind_first : (e : Pair) (all es : List Pair) → T (below_all order e.0 es) → AllByRecursion (IsFound all) es
    → AllByRecursion (IsFound (e ∷ all)) es
behind_first e all [] below each = tt
behind_first e all (d ∷ es) below each = (
  ap (λ r. cond (is_eq r) (Some e.1) (find order d.0 all)) (above e.0 d.0 (first _ _ below)) ∙ each.0,
  behind_first e all es (second _ _ below) each.1,
)

each_found : (es : List Pair) → T (is_sorted order es) → AllByRecursion (IsFound es) es
each_found [] sorted = tt
each_found (e ∷ es) sorted = (
  ap (λ r. cond (is_eq r) (Some e.1) (find order e.0 es)) (tied_itself nat_list_cmp_total e.0),
  behind_first e es es (first _ _ sorted) (each_found es (second _ _ sorted)),
)

all_found : (P : Pair → Type 0) (all es : List Pair)
    → ((key value : List ℕ) → find order key all ≡ Some value → P (key, value)) → AllByRecursion (IsFound all) es
    → AllByRecursion P es
all_found P all [] each found = tt
all_found P all (e ∷ es) each found = (each e.0 e.1 found.0, all_found P all es each found.1)

-- what holds of each key and its value holds of the pairs
pub all_pairs : (P : Pair → Type 0) (store : Store)
    → ((key value : List ℕ) → finite.get store key ≡ Some value → P (key, value)) → AllByRecursion P (pairs_in store)
all_pairs P store each =
    all_found P (finite.entries store) (finite.entries store)
    (λ key value is. each key value (finite.get-entries store key ∙ is))
    (each_found (finite.entries store) (finite.entries_sorted store))
