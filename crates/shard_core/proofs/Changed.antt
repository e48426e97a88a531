-- A map after one call: a value was put at a key, or a key was taken out.
use Rattle.std.proofs.Common.{◌≡◌, ℕ, zero, suc, ◌+◌, Bool, true, false, cond, List, [], ◌∷◌, Option, None, Some}
use Rattle.std.proofs.Common.{is_some, get_or, position, refl, sym, ap, ◌∙◌, subst, arith, IsPermutation}
use Rattle.std.specs.Global.{Vec}
use Rattle.std.specs.List.{slice_get, AllByRecursion, sum_by}
use Rattle.std.specs.Cmp.{IsEquivalence}
use Rattle.std.specs.Cmp.Lexicographic.{nat_list_eq_equiv, bytes_decides}
use Rattle.std.specs.HashMap.{HashMap}
use Rattle.std.specs.Map.{lookup, lookup_key, keys_of, values_of}
use Rattle.std.proofs.lemmas.List.Sorted.{IsPermutation-swap_remove, sum_by-IsPermutation, All-permutation}
use Rattle.std.proofs.lemmas.List.{get_or_default}
use Rattle.std.proofs.lemmas.List.Sums.{sum_by-cons}
use Rattle.std.proofs.lemmas.List.Elements.{All-from_recursion, recursion_from_All}
use Rattle.std.proofs.lemmas.Option.{slice_get-get_or}
use Rattle.view_sums.specs.Total.{total, Each}
use Rattle.frag_value.proofs.Lists.{got-map}
use Rattle.indexmap.specs.IndexMap.{IsUnique, insert_entry, set_value_at, with_value_at, swap_remove_entry}
use Rattle.indexmap.proofs.CallerLemmas.{updates-with_value_at}
use Rattle.indexmap.proofs.MapLemmas.{Found-position, some_index, swap_remove_entry-found}
use Rattle.shard_core.specs.Keys.{same_bytes, key_eq, is_key}
use Rattle.shard_core.specs.Kept.{Entries, value_at}
use Rattle.frag_value.specs.Values.{Frags}
use Rattle.shard_core.proofs.Entries.{weigh, sum, sum-insert, sum-set, Every, every-insert, every-set, updated}

-- a value was put at a key
pub record Put (es now : Entries) (key : List ℕ) (w : Frags) : Type 1 where
  pub sums : (f : Frags → ℕ) → sum f now + weigh f (value_at key es) ≡ sum f es + f w
  pub every : (P : Frags → Type 0) → P w → Every P es → Every P now
  pub changed : (c : List ℕ) → value_at c now ≡ cond (same_bytes key c) (Some w) (value_at c es)

-- a key was taken out
pub record Cut (es now : Entries) (key : List ℕ) : Type 1 where
  pub sums : (f : Frags → ℕ) → sum f now + weigh f (value_at key es) ≡ sum f es
  pub every : (P : Frags → Type 0) → Every P es → Every P now
  pub changed : (c : List ℕ) → value_at c now ≡ cond (same_bytes key c) None (value_at c es)

pub put-insert : (es now : Entries) (key : List ℕ) (name : Vec ℕ) (w : Frags) → name.items ≡ key
    → now ≡ insert_entry key_eq es name w
    → ((c : List ℕ) → value_at c now ≡ cond (same_bytes name.items c) (Some w) (value_at c es)) → Put es now key w
put-insert es now key name w named is changed = record {
  sums = λ f. ap (λ l. sum f l + weigh f (value_at key es)) is
      ∙ ap (λ k. sum f (insert_entry key_eq es name w) + weigh f (value_at k es)) (sym named)
      ∙ sum-insert f key_eq es name w;
  every = λ P new all. subst (Every P) (sym is) (every-insert P key_eq es name w new all);
  changed = λ c. changed c ∙ ap (λ k. cond (same_bytes k c) (Some w) (value_at c es)) named;
}

-- the entry at the index of a key
pub at_index : (key : List ℕ) (es : Entries) (i : ℕ) → position (is_key key) (keys_of es) ≡ Some i → value_at key es
    ≡ slice_get (values_of es) i
at_index key es i at = (Found-position (is_key key) es i at).value

pub put-set : (es now : Entries) (key : List ℕ) (i : ℕ) (old w : Frags) → position (is_key key) (keys_of es) ≡ Some i
    → value_at key es ≡ Some old → now ≡ set_value_at es i w
    → ((c : List ℕ) → value_at c now ≡ cond (same_bytes key c) (Some w) (value_at c es)) → Put es now key w
put-set es now key i old w at there is changed = record {
  sums = λ f. ap (λ l. sum f l + weigh f (value_at key es)) is ∙ ap (λ o. sum f (set_value_at es i w) + weigh f o) there
      ∙ sum-set f es i old w (sym (at_index key es i at) ∙ there);
  every = λ P new all. subst (Every P) (sym is) (every-set P es i w new all);
  changed = changed;
}

-- keys are equal as their bytes are
bytes_equivalence : IsEquivalence key_eq
bytes_equivalence = record {
  refl = λ k. nat_list_eq_equiv.refl k.items;
  symm = λ j k. nat_list_eq_equiv.symm j.items k.items;
  congr = λ j k l. nat_list_eq_equiv.congr j.items k.items l.items;
}

entry_at : (es : Entries) (i : ℕ) (k : Vec ℕ) (v : Frags) → slice_get (keys_of es) i ≡ Some k
    → slice_get (values_of es) i ≡ Some v → slice_get es i ≡ Some (k, v)
entry_at [] i k v key value = absurd (cc)
entry_at (e ∷ es) zero k v key value = let same : e.0 ≡ k = cc in let held : e.1 ≡ v = cc in λ j. Some (same j, held j)
entry_at (e ∷ es) (suc i) k v key value = entry_at es i k v key value

-- a key that is found passes the test
found_here : (test : Vec ℕ → Bool) (e : Vec ℕ × Frags) (rest : Option (Vec ℕ)) (k : Vec ℕ) (t : Bool) → test e.0 ≡ t
    → (rest ≡ Some k → test k ≡ true) → cond t (Some e.0) rest ≡ Some k → test k ≡ true
found_here test e rest k true here more found = let same : e.0 ≡ k = cc in ap test (sym same) ∙ here
found_here test e rest k false other more found = more found

found_key : (test : Vec ℕ → Bool) (es : Entries) (k : Vec ℕ) → lookup_key test es ≡ Some k → test k ≡ true
found_key test [] k found = absurd (cc)
found_key test (e ∷ es) k found = found_here test e (lookup_key test es) k (test e.0) refl (found_key test es k) found

some_key : (es : Entries) (i : ℕ) (v : Frags) → slice_get (values_of es) i ≡ Some v → (k : Vec ℕ)
    × (slice_get (keys_of es) i ≡ Some k)
some_key [] i v found = absurd (cc)
some_key (e ∷ es) zero v found = (e.0, refl)
some_key (e ∷ es) (suc i) v found = some_key es i v found

-- a write at a key's index changes this key alone
pub changed-set : {S : Type 0} (m : HashMap (Vec ℕ) Frags S) (key : List ℕ) (i : ℕ) (old w : Frags) → IsUnique key_eq m
    → position (is_key key) (keys_of m.entries) ≡ Some i → value_at key m.entries ≡ Some old
    → (c : List ℕ) → value_at c (set_value_at m.entries i w) ≡ cond (same_bytes key c) (Some w) (value_at c m.entries)
changed-set m key i old w unique at there c =
    let place = Found-position (is_key key) m.entries i at in
    let value : slice_get (values_of m.entries) i ≡ Some old = sym place.value ∙ there in
    let stored = some_key m.entries i old value in
    let named : key ≡ stored.0.items = (bytes_decides key stored.0.items).0
    (found_key (is_key key) m.entries stored.0 (place.key ∙ stored.1)) in
    updated stored.0.items m (with_value_at m i w) (Some w)
    (updates-with_value_at m i w bytes_equivalence unique stored.0 old
    (entry_at m.entries i stored.0 old stored.1 value)) c
    ∙ ap (λ k. cond (same_bytes k c) (Some w) (value_at c m.entries)) (sym named)

-- sums over lists in another order
total-by : {A : Type 0} (f : A → ℕ) (xs : List A) → total f xs ≡ sum_by f xs
total-by f [] = refl
total-by f (x ∷ xs) = ap (λ n. f x + n) (total-by f xs) ∙ sym (sum_by-cons f x xs)

pub total-permutation : {A : Type 0} (f : A → ℕ) (xs ys : List A) → IsPermutation xs ys → total f ys ≡ total f xs
total-permutation f xs ys moved = total-by f ys ∙ sum_by-IsPermutation f xs ys moved ∙ sym (total-by f xs)

each_all : {A : Type 0} (P : A → Type 0) (xs : List A) → Each P xs → AllByRecursion P xs
each_all P [] all = tt
each_all P (x ∷ xs) all = (all.0, each_all P xs all.1)

all_each : {A : Type 0} (P : A → Type 0) (xs : List A) → AllByRecursion P xs → Each P xs
all_each P [] all = tt
all_each P (x ∷ xs) all = (all.0, all_each P xs all.1)

pub each-permutation : {A : Type 0} (P : A → Type 0) (xs ys : List A) → IsPermutation xs ys → Each P xs → Each P ys
each-permutation P xs ys moved all =
    all_each P ys (recursion_from_All P ys
    (All-permutation P xs ys moved (All-from_recursion P xs (each_all P xs all))))

-- the last entry in the place of the one that goes
record Swapped (test : Vec ℕ → Bool) (es : Entries) (old : Frags) : Type 0 where
  pub entry : Vec ℕ × Frags
  pub value : entry.1 ≡ old
  pub moved : IsPermutation es (entry ∷ swap_remove_entry test es)

swapped_at : (test : Vec ℕ → Bool) (es : Entries) (old : Frags) (d : Vec ℕ × Frags) (o : Option ℕ)
    → position test (keys_of es) ≡ o → lookup test es ≡ Some old → Swapped test es old
swapped_at test es old d None at found =
    let there : is_some (lookup test es) ≡ true = ap is_some found in
    let missing : is_some (position test (keys_of es)) ≡ false = ap is_some at in
    let none : true ≡ false = sym there ∙ sym (some_index test es) ∙ missing in
    absurd (cc)
swapped_at test es old d (Some i) at found =
    let place = Found-position test es i at in
    let e : Vec ℕ × Frags = get_or es i d in
    let values : slice_get (values_of es) i ≡ Some e.1 = got-map (λ (x : Vec ℕ × Frags). x.1) es i e
    (slice_get-get_or es i d place.within) in
    let same : Some e.1 ≡ Some old = sym values ∙ sym place.value ∙ found in
    record {
      entry = e;
      value = cc;
      moved = subst (λ l. IsPermutation es (e ∷ l)) (sym (swap_remove_entry-found test es i e at))
          (IsPermutation-swap_remove es i e place.within (get_or_default es i d e place.within));
    }

swapped : (test : Vec ℕ → Bool) (es : Entries) (old : Frags) → lookup test es ≡ Some old → Swapped test es old
swapped test [] old found = absurd (cc)
swapped test (e ∷ es) old found = swapped_at test (e ∷ es) old e (position test (keys_of (e ∷ es))) refl found

pub cut-swap : (es now : Entries) (key : List ℕ) (old : Frags) → value_at key es ≡ Some old
    → now ≡ swap_remove_entry (is_key key) es
    → ((c : List ℕ) → value_at c now ≡ cond (same_bytes key c) None (value_at c es)) → Cut es now key
cut-swap es now key old there is changed =
    let s = swapped (is_key key) es old there in
    record {
      sums = λ f. omega (
        arith,
        ap (sum f) is,
        ap (weigh f) there,
        ap f s.value,
        total-permutation
            (λ (e : Vec ℕ × Frags). f e.1) es (s.entry ∷ swap_remove_entry (is_key key) es) s.moved,
      );
      every = λ P all. subst (Every P) (sym is)
          (each-permutation (λ (e : Vec ℕ × Frags). P e.1) es (s.entry ∷ swap_remove_entry (is_key key) es) s.moved
          all).1;
      changed = changed;
    }

-- a key with no index is missing
pub missing_key : (key : List ℕ) (es : Entries) → position (is_key key) (keys_of es) ≡ None → value_at key es ≡ None
missing_key key es none = by (value_at key es) refl
  where
    by : (o : Option Frags) → value_at key es ≡ o → value_at key es ≡ None
    by None is = is
    by (Some v) is =
        let there : is_some (value_at key es) ≡ true = ap is_some is in
        let missing : is_some (position (is_key key) (keys_of es)) ≡ false = ap is_some none in
        let apart : true ≡ false = sym there ∙ sym (some_index (is_key key) es) ∙ missing in
        absurd (cc)
