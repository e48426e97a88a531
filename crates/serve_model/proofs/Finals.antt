-- The fragments of what deeds leave: each final value has an address for each of its fragments.
use Rattle.std.proofs.Common.{◌≡◌, ℕ, suc, ◌&&◌, Bool, true, false, cond, T, List, [], ◌∷◌, Option, None, Some}
use Rattle.std.proofs.Common.{length, map, unwrap_or, zip, refl, ap, sym, ◌∙◌, arith}
use Rattle.std.specs.List.{flat_map}
use Rattle.std.specs.Ordering.{nat_cmp, eq_by_cmp, is_eq, is_lt, ordering_reverse}
use Rattle.std.specs.Cmp.{IsTotalOrder, tied_itself}
use Rattle.std.specs.Cmp.Lexicographic.{slice_cmp}
use Rattle.std.specs.FinMap as finite
use Rattle.std.specs.FinMap.Entries.{find, below_all, is_sorted}
use Rattle.std.specs.declared.cmp.Ordering.{Ordering}
use Rattle.std.specs.declared.cmp.Ordering.TheVariants.{Less, Equal, Greater}
use Rattle.std.proofs.lemmas.Cmp.{nat_list_cmp_total}
use Rattle.view_sums.specs.Total.{total, Each}
use Rattle.view_sums.proofs.Eachs.{each-imp}
use Rattle.view_sums.proofs.Sums.{total-append, total-map}
use Rattle.pin_core.specs.declared.class.Class.{Class}
use Rattle.pinned_pool.specs.Classes.{just}
use Rattle.frag_value.specs.Fragments.{class_for, fragments_in}
use Rattle.flake_model.specs.Deed.{Deed, Places, places_at, AreStored, places_with, places_after, kept_fragments}
use Rattle.flake_model.specs.Deed.{IsLegalFrom, store_left, places_left, final_store, final_places, IsLegal}
use Rattle.flake_model.specs.Fragments.{fragments_of}
use Rattle.flake_model.specs.Store.{Store, Change, keeps, puts, removes, changed, change_by, bytes_at, key_of, after}
use Rattle.shard_core.specs.Stock.{fragments_by}

-- each entry of a sorted list is found at its key
first : (a b : Bool) → T (a && b) → T a
first true b p = tt
first false b p = p

second : (a b : Bool) → T (a && b) → T b
second true b p = p
second false b p = absurd p

less : (o : Ordering) → T (is_lt o) → o ≡ Less
less Less p = refl
less Equal p = absurd p
less Greater p = absurd p

module _ {K X : Type 0} (R : K → K → Ordering) (o : IsTotalOrder R) where
  behind_first : (e : K × X) (all es : List (K × X)) → T (below_all R e.0 es)
      → Each (λ d. find R d.0 all ≡ Some d.1) es → Each (λ d. find R d.0 (e ∷ all) ≡ Some d.1) es
  behind_first e all [] below each = tt
  behind_first e all (d ∷ es) below each =
      let above : R d.0 e.0 ≡ Greater = o.antisymm d.0 e.0 ∙ ap ordering_reverse (less _ (first _ _ below)) in
      let not_first : find R d.0 (e ∷ all) ≡ find R d.0 all =
      ap (λ r. cond (is_eq r) (Some e.1) (find R d.0 all)) above in
      (not_first ∙ each.0, behind_first e all es (second _ _ below) each.1)

  each_found : (es : List (K × X)) → T (is_sorted R es) → Each (λ e. find R e.0 es ≡ Some e.1) es
  each_found [] sorted = tt
  each_found (e ∷ es) sorted = (
    ap (λ r. cond (is_eq r) (Some e.1) (find R e.0 es)) (tied_itself o e.0),
    behind_first e es es (first _ _ sorted) (each_found es (second _ _ sorted)),
  )

-- each value that is there has an address for each of its fragments
abbrev ArePlaced : Store → Places → Type 0
ArePlaced store places = (key bytes : List ℕ) → finite.get store key ≡ Some bytes
    → length (places_at places key) ≡ length (fragments_of bytes)

abbrev is_at : List ℕ → List ℕ → Bool
is_at key other = eq_by_cmp (slice_cmp nat_cmp) key other

same_some : (x y : List ℕ) → Some x ≡ Some y → x ≡ y
same_some x y e = ap (λ (o : Option (List ℕ)). unwrap_or o x) e

module _ (store : Store) (places : Places) (key : List ℕ) (are : ArePlaced store places) where
  inserted : (bytes stored : List ℕ) → length stored ≡ length (fragments_of bytes)
      → ArePlaced (finite.insert store key bytes) (finite.insert places key stored)
  inserted bytes stored long other found is = by (is_at other key)
      (sym (finite.get-insert nat_list_cmp_total store key bytes other) ∙ is)
      (finite.get-insert nat_list_cmp_total places key stored other) where
        by : (here : Bool) → cond here (Some bytes) (finite.get store other) ≡ Some found
            → finite.get (finite.insert places key stored) other ≡ cond here (Some stored) (finite.get places other)
            → length (places_at (finite.insert places key stored) other) ≡ length (fragments_of found)
        by true now there =
            ap (λ (p : Option (List ℕ)). length (unwrap_or p [])) there ∙ long
            ∙ ap (λ (b : List ℕ). length (fragments_of b)) (same_some bytes found now)
        by false now there =
            ap (λ (p : Option (List ℕ)). length (unwrap_or p [])) there ∙ are other found now

  removed : ArePlaced (finite.remove store key) (finite.remove places key)
  removed other found is = by (is_at other key)
      (sym (finite.get-remove nat_list_cmp_total store key other) ∙ is)
      (finite.get-remove nat_list_cmp_total places key other) where
        by : (here : Bool) → cond here None (finite.get store other) ≡ Some found
            → finite.get (finite.remove places key) other ≡ cond here None (finite.get places other)
            → length (places_at (finite.remove places key) other) ≡ length (fragments_of found)
        by true now there = absurd (let no : ⊥ = cc in no)
        by false now there =
            ap (λ (p : Option (List ℕ)). length (unwrap_or p [])) there ∙ are other found now

  stay_placed : (change : Change) (kept : ℕ) (were stored : List ℕ) → AreStored change kept were stored
      → ArePlaced (changed store key change) (places_with places key change stored)
  stay_placed keeps kept were stored is = are
  stay_placed (puts bytes) kept were stored is = inserted bytes stored is.0
  stay_placed removes kept were stored is = removed

all_placed : (store : Store) (places : Places) (deeds : List Deed) → ArePlaced store places
    → IsLegalFrom store places deeds → ArePlaced (store_left store deeds) (places_left store places deeds)
all_placed store places [] are legal = are
all_placed store places (deed ∷ deeds) are legal =
    let key = key_of deed.operation in
    let kept = kept_fragments (bytes_at store key) deed.operation in
    all_placed (after store deed.operation) (places_after store places deed.operation deed.stored) deeds
    (stay_placed store places key are (change_by store deed.operation) kept (places_at places key) deed.stored
    legal.0.stored_is)
    legal.1

none_placed : ArePlaced finite.empty finite.empty
none_placed key bytes is =
    let none : finite.get (finite.empty {X = List ℕ} {R = slice_cmp nat_cmp}) key ≡ None =
    finite.get-empty (slice_cmp nat_cmp) key in
    absurd (let no : ⊥ = cc in no)

-- 1 for the length of a fragment of the class
abbrev pub length_in : Class → ℕ → ℕ
length_in class n = just (class_for n) 1 class

module _ (class : Class) where
  -- a fragment counts by its length alone
  abbrev pub weigh_fragment : ℕ × ℕ → ℕ
  weigh_fragment fragment = length_in class fragment.1

  zip_total : (addresses lengths : List ℕ) → length addresses ≡ length lengths
      → total weigh_fragment (zip addresses lengths) ≡ total (length_in class) lengths
  zip_total [] [] long = refl
  zip_total [] (n ∷ lengths) long = absurd (let no : ⊥ = omega arith in no)
  zip_total (a ∷ addresses) [] long = absurd (let no : ⊥ = omega arith in no)
  zip_total (a ∷ addresses) (n ∷ lengths) long = omega (arith, zip_total addresses lengths (omega arith))

  entries_total : (places : Places) (es : List (List ℕ × List ℕ))
      → Each (λ (e : List ℕ × List ℕ). length (places_at places e.0) ≡ length (fragments_of e.1)) es
      → total weigh_fragment
      (flat_map
      (λ (e : List ℕ × List ℕ). zip (places_at places e.0) (map length (fragments_of e.1))) es)
      ≡ total (λ (bytes : List ℕ). fragments_in class (fragments_of bytes)) (map (λ (e : List ℕ × List ℕ). e.1) es)
  entries_total places [] each = refl
  entries_total places (e ∷ es) each =
      let lengths = map length (fragments_of e.1) in
      let here = zip (places_at places e.0) lengths in
      let rest = flat_map
      (λ (e : List ℕ × List ℕ). zip (places_at places e.0) (map length (fragments_of e.1))) es in
      omega (
        arith,
        total-append weigh_fragment here rest,
        zip_total (places_at places e.0) lengths (each.0 ∙ sym (length_mapped (fragments_of e.1))),
        total-map (length_in class) length (fragments_of e.1),
        entries_total places es each.1,
      )
    where
      length_mapped : (xs : List (List ℕ)) → length (map length xs) ≡ length xs
      length_mapped [] = refl
      length_mapped (x ∷ xs) = ap (λ n. suc n) (length_mapped xs)

  -- the fragments of what legal deeds leave, by class
  pub fragments_total : (deeds : List Deed) → IsLegal deeds
      → total weigh_fragment (fragments_by deeds)
      ≡ total (λ (bytes : List ℕ). fragments_in class (fragments_of bytes)) (finite.values (final_store deeds))
  fragments_total deeds legal =
      let store = final_store deeds in
      let es = finite.entries store in
      let found = each_found (slice_cmp nat_cmp) nat_list_cmp_total es (finite.entries_sorted store) in
      let are = all_placed finite.empty finite.empty deeds none_placed legal in
      entries_total (final_places deeds) es
      (each-imp _ _ (λ (e : List ℕ × List ℕ) is. are e.0 e.1 (finite.get-entries store e.0 ∙ is)) es found)
