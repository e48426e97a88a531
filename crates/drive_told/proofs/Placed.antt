-- Where the final values of a history lie: each place is that of a fragment which is left.
use Rattle.std.proofs.Common.{◌≡◌, ℕ, zero, suc, ◌+◌, ◌≤◌, ◌⊎◌, inl, inr, Bool, true, false, cond, List, [], ◌∷◌, ◌++◌}
use Rattle.std.proofs.Common.{Option, None, Some, length, map, slice_get, unwrap_or, zip, refl, ap, sym, ◌∙◌, subst}
use Rattle.std.proofs.Common.{eq-eqb}
use Rattle.std.proofs.Common.{arith}
use Rattle.std.specs.List.{flat_map}
use Rattle.std.specs.Ordering.{nat_cmp, eq_by_cmp, is_eq}
use Rattle.std.specs.Cmp.Lexicographic.{slice_cmp}
use Rattle.std.specs.FinMap as finite
use Rattle.std.specs.FinMap.Entries.{find}
use Rattle.std.specs.declared.cmp.Ordering.{Ordering}
use Rattle.std.specs.declared.cmp.Ordering.TheVariants.{Less, Equal, Greater}
use Rattle.std.proofs.lemmas.Cmp.{nat_list_cmp_total}
use Rattle.std.proofs.lemmas.List.{length-map}
use Rattle.view_sums.specs.Total.{total, same}
use Rattle.view_sums.proofs.Sums.{total-append}
use Rattle.flake_model.specs.Deed.{Deed, Places, places_at, AreStored, places_with, places_after, kept_fragments}
use Rattle.flake_model.specs.Deed.{AreApart}
use Rattle.flake_model.specs.Deed.{IsLegalFrom, store_left, places_left, final_store, final_places, IsLegal}
use Rattle.flake_model.specs.Fragments.{fragments_of}
use Rattle.flake_model.specs.Store.{Store, Change, keeps, puts, removes, changed, change_by, bytes_at, key_of, after}
use Rattle.shard_core.specs.Stock.{fragments_by}

-- the key has a value, and a place for each of its fragments
record IsThere (store : Store) (places : Places) (key : List ℕ) : Type 0 where
  bytes : List ℕ
  value : finite.get store key ≡ Some bytes
  long : length (places_at places key) ≡ length (fragments_of bytes)

-- so has each key that has places
abbrev Stands : Store → Places → Type 0
Stands store places = (key : List ℕ) → (places_at places key ≡ []) ⊎ IsThere store places key

abbrev is_at : List ℕ → List ℕ → Bool
is_at key other = eq_by_cmp (slice_cmp nat_cmp) key other

abbrev or_none : Option (List ℕ) → List ℕ
or_none found = unwrap_or found []

module _ (store : Store) (places : Places) (key : List ℕ) (are : Stands store places) where
  inserted : (bytes stored : List ℕ) → length stored ≡ length (fragments_of bytes)
      → Stands (finite.insert store key bytes) (finite.insert places key stored)
  inserted bytes stored long other = by (is_at other key)
      (finite.get-insert nat_list_cmp_total store key bytes other)
      (finite.get-insert nat_list_cmp_total places key stored other) (are other) where
        by : (here : Bool)
            → finite.get (finite.insert store key bytes) other ≡ cond here (Some bytes) (finite.get store other)
            → finite.get (finite.insert places key stored) other ≡ cond here (Some stored) (finite.get places other)
            → (places_at places other ≡ []) ⊎ IsThere store places other
            → (places_at (finite.insert places key stored) other ≡ [])
            ⊎ IsThere (finite.insert store key bytes) (finite.insert places key stored) other
        by true value place was = inr (record {
          bytes = bytes;
          value = value;
          long = ap (λ (p : Option (List ℕ)). length (or_none p)) place ∙ long;
        })
        by false value place (inl none) = inl (ap or_none place ∙ none)
        by false value place (inr there) = inr (record {
          bytes = there.bytes;
          value = value ∙ there.value;
          long = ap (λ (p : Option (List ℕ)). length (or_none p)) place ∙ there.long;
        })

  removed : Stands (finite.remove store key) (finite.remove places key)
  removed other = by (is_at other key) (finite.get-remove nat_list_cmp_total store key other)
      (finite.get-remove nat_list_cmp_total places key other) (are other) where
        by : (here : Bool) → finite.get (finite.remove store key) other ≡ cond here None (finite.get store other)
            → finite.get (finite.remove places key) other ≡ cond here None (finite.get places other)
            → (places_at places other ≡ []) ⊎ IsThere store places other
            → (places_at (finite.remove places key) other ≡ [])
            ⊎ IsThere (finite.remove store key) (finite.remove places key) other
        by true value place was = inl (ap or_none place)
        by false value place (inl none) = inl (ap or_none place ∙ none)
        by false value place (inr there) = inr (record {
          bytes = there.bytes;
          value = value ∙ there.value;
          long = ap (λ (p : Option (List ℕ)). length (or_none p)) place ∙ there.long;
        })

  stay : (change : Change) (kept : ℕ) (were stored : List ℕ) → AreStored change kept were stored
      → Stands (changed store key change) (places_with places key change stored)
  stay keeps kept were stored is = are
  stay (puts bytes) kept were stored is = inserted bytes stored is.0
  stay removes kept were stored is = removed

all_stand : (store : Store) (places : Places) (deeds : List Deed) → Stands store places → IsLegalFrom store places deeds
    → Stands (store_left store deeds) (places_left store places deeds)
all_stand store places [] are legal = are
all_stand store places (deed ∷ deeds) are legal =
    let key = key_of deed.operation in
    let kept = kept_fragments (bytes_at store key) deed.operation in
    all_stand (after store deed.operation) (places_after store places deed.operation deed.stored) deeds
    (stay store places key are (change_by store deed.operation) kept (places_at places key) deed.stored
    legal.0.stored_is) legal.1

none_stand : Stands finite.empty finite.empty
none_stand key =
    let none : finite.get (finite.empty {X = List ℕ} {R = slice_cmp nat_cmp}) key ≡ None =
    finite.get-empty (slice_cmp nat_cmp) key in
    inl (ap or_none none)

-- keys that are alike find the same
find_alike : {X : Type 0} (key other : List ℕ) (es : List (List ℕ × X)) → slice_cmp nat_cmp key other ≡ Equal
    → find (slice_cmp nat_cmp) key es ≡ find (slice_cmp nat_cmp) other es
find_alike key other [] alike = refl
find_alike key other (e ∷ es) alike =
    (λ i. cond (is_eq (nat_list_cmp_total.congr key other e.0 alike i)) (Some e.1) (find_alike key other es alike i))

-- 1 for a fragment at the address
abbrev pub lies : ℕ → ℕ × ℕ → ℕ
lies address p = same p.0 address

abbrev of_value : Places → List ℕ × List ℕ → List (ℕ × ℕ)
of_value places entry = zip (places_at places entry.0) (map length (fragments_of entry.1))

in_zip : (address : ℕ) (addresses lengths : List ℕ) (number : ℕ) → slice_get addresses number ≡ Some address
    → length addresses ≡ length lengths → 1 ≤ total (lies address) (zip addresses lengths)
in_zip address [] lengths number is long = absurd (let no : ⊥ = cc in no)
in_zip address (a ∷ addresses) [] number is long = absurd (let no : ⊥ = omega (arith, long) in no)
in_zip address (a ∷ addresses) (n ∷ lengths) zero is long =
    let e : a ≡ address = cc in
    let one : same a address ≡ 1 = ap (λ b. cond b 1 0) (eq-eqb a address e) in
    omega (arith, one)
in_zip address (a ∷ addresses) (n ∷ lengths) (suc number) is long =
    omega (arith, in_zip address addresses lengths number is (omega (arith, long)))

in_entries : (address : ℕ) (places : Places) (key bytes : List ℕ) (number : ℕ) (es : List (List ℕ × List ℕ))
    → find (slice_cmp nat_cmp) key es ≡ Some bytes → slice_get (places_at places key) number ≡ Some address
    → length (places_at places key) ≡ length (fragments_of bytes)
    → 1 ≤ total (lies address) (flat_map (of_value places) es)
in_entries address places key bytes number [] is at long = absurd (let no : ⊥ = cc in no)
in_entries address places key bytes number (e ∷ es) is at long =
    by (slice_cmp nat_cmp key e.0) refl is (λ later. in_entries address places key bytes number es later at long)
  where
    sum : total (lies address) (of_value places e ++ flat_map (of_value places) es)
        ≡ total (lies address) (of_value places e) + total (lies address) (flat_map (of_value places) es)
    sum = total-append (lies address) (of_value places e) (flat_map (of_value places) es)

    by : (o : Ordering) → slice_cmp nat_cmp key e.0 ≡ o
        → cond (is_eq o) (Some e.1) (find (slice_cmp nat_cmp) key es) ≡ Some bytes
        → (find (slice_cmp nat_cmp) key es ≡ Some bytes → 1 ≤ total (lies address) (flat_map (of_value places) es))
        → 1 ≤ total (lies address) (of_value places e ++ flat_map (of_value places) es)
    by Less order now later = omega (arith, later now, sum)
    by Greater order now later = omega (arith, later now, sum)
    by Equal order now later =
        let bytes_are : e.1 ≡ bytes = cc in
        let there : places_at places key ≡ places_at places e.0 =
        ap or_none (finite.get-entries places key ∙ find_alike key e.0 (finite.entries places) order
        ∙ sym (finite.get-entries places e.0)) in
        let here = in_zip address (places_at places e.0) (map length (fragments_of e.1)) number
        (subst (λ l. slice_get l number ≡ Some address) there at)
        (sym (ap length there) ∙ long ∙ ap (λ b. length (fragments_of b)) (sym bytes_are)
        ∙ sym (length-map (fragments_of e.1) length)) in
        omega (arith, here, sum)

none_at : (number address : ℕ) → slice_get [] number ≡ Some address → ⊥
none_at number address is = cc

-- an address of a final value is that of a fragment which the deeds leave
pub is_left : (deeds : List Deed) → IsLegal deeds → (key : List ℕ) (number address : ℕ)
    → slice_get (places_at (final_places deeds) key) number ≡ Some address
    → 1 ≤ total (lies address) (fragments_by deeds)
is_left deeds legal key number address at =
    by (all_stand finite.empty finite.empty deeds none_stand legal key) where
      by : (places_at (final_places deeds) key ≡ []) ⊎ IsThere (final_store deeds) (final_places deeds) key
          → 1 ≤ total (lies address) (fragments_by deeds)
      by (inl none) = absurd (none_at number address (subst (λ l. slice_get l number ≡ Some address) none at))
      by (inr there) =
          in_entries address (final_places deeds) key there.bytes number (finite.entries (final_store deeds))
          (sym (finite.get-entries (final_store deeds) key) ∙ there.value) at there.long

none_apart : AreApart finite.empty
none_apart key other number number' address is is' =
    let none : finite.get (finite.empty {X = List ℕ} {R = slice_cmp nat_cmp}) key ≡ None =
    finite.get-empty (slice_cmp nat_cmp) key in
    absurd (none_at number address (subst (λ l. slice_get l number ≡ Some address) (ap or_none none) is))

stay_apart : (store : Store) (places : Places) (deeds : List Deed) → AreApart places → IsLegalFrom store places deeds
    → AreApart (places_left store places deeds)
stay_apart store places [] apart legal = apart
stay_apart store places (deed ∷ deeds) apart legal =
    stay_apart (after store deed.operation) (places_after store places deed.operation deed.stored) deeds legal.0.apart
    legal.1

-- in one history no two of them are the same
pub apart_in : (deeds : List Deed) → IsLegal deeds → AreApart (final_places deeds)
apart_in deeds legal = stay_apart finite.empty finite.empty deeds none_apart legal
