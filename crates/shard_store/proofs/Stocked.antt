-- The fragments of all shard maps' values are those that the shards' deeds leave.
use Rattle.std.proofs.Common.{◌≡◌, ℕ, zero, suc, ◌+◌, ◌-◌, ◌≤◌, List, [], ◌∷◌, ◌++◌, map, length, take, drop, zip}
use Rattle.std.proofs.Common.{Option, None, Some, refl, sym, ap, ◌∙◌, subst, arith}
use Rattle.std.proofs.lemmas.List.{length-drop, length-take}
use Rattle.std.specs.Global.{Vec}
use Rattle.std.specs.List.{flat_map}
use Rattle.std.specs.Option.{option_map}
use Rattle.std.specs.FinMap as finite
use Rattle.view_sums.specs.Total.{total, Each}
use Rattle.view_sums.proofs.Sums.{total-append, total-map}
use Rattle.view_sums.proofs.Eachs.{each-append}
use Rattle.pin_core.specs.Holding.{Holding, Key}
use Rattle.pin_core.specs.declared.sizes.Sizes.{Sizes}
use Rattle.pinned_pool.specs.Addresses.{address_of}
use Rattle.pinned_pool.specs.Moves.{hold_key, loose_key}
use Rattle.pinned_pool.specs.declared.view.View.{View}
use Rattle.flake_base.specs.declared.journal.Entry.{Entry}
use Rattle.flake_model.specs.Deed.{final_store, final_places, places_at}
use Rattle.flake_model.specs.Fragments.{fragments_of, cuts}
use Rattle.frag_value.specs.Values.{IsValue, IsPlaced, IsFilled, IsCut, keys_of, size_of, value_bytes}
use Rattle.frag_value.proofs.Cuts.{length-bytes-value}
use Rattle.order_book.specs.Pages.{ShardList}
use Rattle.shard_core.specs.Keys.{is_key}
use Rattle.shard_core.specs.Kept.{Entries, value_at, frags_of, entries_weight, value_addresses}
use Rattle.frag_value.specs.Values.{Frags}
use Rattle.shard_core.proofs.Entries.{every-found}
use Rattle.shard_core.proofs.Holds.{places_of}
use Rattle.shard_core.specs.Stock.{fragments_by, fragments_left, LiesIn, LieIn, AreParts}
use Rattle.shard_store.specs.Gathered.{IsShardMap, AreInShardMaps, weighed_in, AreGathered}
use Rattle.shard_store.proofs.Counted.{same_entries}

flat-total : {A B : Type 0} (weight : B → ℕ) (f : A → List B) (xs : List A) → total weight (flat_map f xs)
    ≡ total (λ x. total weight (f x)) xs
flat-total weight f [] = refl
flat-total weight f (x ∷ xs) = omega (arith, total-append weight (f x) (flat_map f xs), flat-total weight f xs)

flat-each : {A B : Type 0} (P : B → Type 0) (f : A → List B) (xs : List A) → Each (λ x. Each P (f x)) xs
    → Each P (flat_map f xs)
flat-each P f [] all = tt
flat-each P f (x ∷ xs) all = each-append P (f x) (flat_map f xs) all.0 (flat-each P f xs all.1)

map-append-keys : (v w : Frags) → keys_of (v ++ w) ≡ keys_of v ++ keys_of w
map-append-keys [] w = refl
map-append-keys (p ∷ v) w = ap (λ l. loose_key p.0 ∷ l) (map-append-keys v w)

-- a value's fragments, each as its address and its length
abbrev spots : Sizes → Frags → List (ℕ × ℕ)
spots z v = map (λ (p : ℕ × ℕ). (address_of z p.0, p.1)) v

-- the lengths of the fragments that a value's bytes are cut into
lengths-cut : (most : ℕ) (bytes : List ℕ) (v : Frags) → IsCut (length bytes) v → length bytes ≤ most
    → map length (cuts most bytes) ≡ map (λ (p : ℕ × ℕ). p.1) v
lengths-cut zero bytes [] cut few = refl
lengths-cut zero bytes (p ∷ v) cut few = absurd (omega (arith, cut.0, few))
lengths-cut (suc more) [] [] cut few = refl
lengths-cut (suc more) [] (p ∷ v) cut few = absurd (omega (arith, cut.0))
lengths-cut (suc more) (byte ∷ bytes) [] cut few = absurd (omega (arith, cut))
lengths-cut (suc more) (byte ∷ bytes) (p ∷ v) cut few =
    let left : length (drop 4096 (byte ∷ bytes)) ≡ length (byte ∷ bytes) - 4096 = length-drop 4096 (byte ∷ bytes) in
    let here : length (take 4096 (byte ∷ bytes)) ≡ p.1 = omega (arith, length-take 4096 (byte ∷ bytes), cut.1) in
    let rest = lengths-cut more (drop 4096 (byte ∷ bytes)) v (subst (λ n. IsCut n v) (sym left) cut.2)
    (omega (arith, left, few)) in
    λ i. here i ∷ rest i

zip-spots : (z : Sizes) (v : Frags) → zip (value_addresses z v) (map (λ (p : ℕ × ℕ). p.1) v) ≡ spots z v
zip-spots z [] = refl
zip-spots z (p ∷ v) = ap (λ l. (address_of z p.0, p.1) ∷ l) (zip-spots z v)

abbrev frags_kept : Entries → Frags
frags_kept es = flat_map (λ (e : Vec ℕ × Frags). e.1) es

module _ (z : Sizes) (hs : List Holding) where
  shard_map-spots : (weight : ℕ × ℕ → ℕ) (list : ShardList) (es : Entries) → IsShardMap z hs list es
      → total (λ (e : Vec ℕ × Frags). total weight (spots z e.1)) es ≡ total weight (fragments_by list.told)
  shard_map-spots weight list es is =
      same_entries
      (λ (x : List ℕ × List ℕ). total weight
      (zip (places_at (final_places list.told) x.0) (map length (fragments_of x.1)))) (value_bytes hs)
      (λ v. total weight (spots z v)) es (final_store list.told) is.distinct is.agrees.bytes fits
      ∙ sym (flat-total weight
      (λ (x : List ℕ × List ℕ). zip (places_at (final_places list.told) x.0) (map length (fragments_of x.1)))
      (finite.entries (final_store list.told)))
    where
      fits : (q : List ℕ) (v : Frags) → value_at q es ≡ Some v → total weight (spots z v)
          ≡ total weight (zip (places_at (final_places list.told) q) (map length (fragments_of (value_bytes hs v))))
      fits q v found =
          let value : IsValue z v = every-found (IsValue z) (is_key q) es v is.values found in
          let filled : Each (IsFilled hs) v = every-found (λ (w : Frags). Each (IsFilled hs) w)
          (is_key q) es v is.filled found in
          let size : size_of v ≡ length (value_bytes hs v) = sym (length-bytes-value hs v filled) in
          let places : places_at (final_places list.told) q ≡ value_addresses z v =
          places_of z es hs (final_store list.told) (final_places list.told) q is.agrees
          ∙ ap (λ o. value_addresses z (frags_of o)) found in
          let lengths = lengths-cut (length (value_bytes hs v)) (value_bytes hs v) v
          (subst (λ n. IsCut n v) size value.cut) (omega arith) in
          ap (total weight) (sym ((λ i. zip (places i) (lengths i)) ∙ zip-spots z v))

  kept-spots : (weight : ℕ × ℕ → ℕ) (es : Entries) → total weight (spots z (frags_kept es))
      ≡ total (λ (e : Vec ℕ × Frags). total weight (spots z e.1)) es
  kept-spots weight es =
      total-map weight (λ (p : ℕ × ℕ). (address_of z p.0, p.1)) (frags_kept es)
      ∙ flat-total (λ (p : ℕ × ℕ). weight (address_of z p.0, p.1)) (λ (e : Vec ℕ × Frags). e.1) es
      ∙ by es
    where
      by : (xs : Entries) → total (λ (e : Vec ℕ × Frags). total (λ (p : ℕ × ℕ). weight (address_of z p.0, p.1)) e.1) xs
          ≡ total (λ (e : Vec ℕ × Frags). total weight (spots z e.1)) xs
      by [] = refl
      by (e ∷ xs) = omega (arith, by xs, total-map weight (λ (p : ℕ × ℕ). (address_of z p.0, p.1)) e.1)

  kept-keys : (weight : Key → ℕ) (es : Entries) → total weight (keys_of (frags_kept es)) ≡ entries_weight weight es
  kept-keys weight [] = refl
  kept-keys weight (e ∷ es) = ap (total weight) (map-append-keys e.1 (frags_kept es))
      ∙ total-append weight (keys_of e.1) (keys_of (frags_kept es)) ∙ ap (λ n. total weight (keys_of e.1) + n)
      (kept-keys weight es)

  abbrev all_kept : List Entries → Frags
  all_kept shard_maps = flat_map frags_kept shard_maps

  all-keys : (weight : Key → ℕ) (shard_maps : List Entries) → total weight (keys_of (all_kept shard_maps))
      ≡ weighed_in weight shard_maps
  all-keys weight [] = refl
  all-keys weight (es ∷ shard_maps) =
      ap (total weight) (map-append-keys (frags_kept es) (all_kept shard_maps))
      ∙ total-append weight (keys_of (frags_kept es)) (keys_of (all_kept shard_maps))
      ∙ (λ i. kept-keys weight es i + all-keys weight shard_maps i)

  values-placed : (es : Entries) → Each (λ (e : Vec ℕ × Frags). IsValue z e.1) es → Each (IsPlaced z) (frags_kept es)
  values-placed [] are = tt
  values-placed (e ∷ es) are = each-append (IsPlaced z) e.1 (frags_kept es) are.0.placed (values-placed es are.1)

  all-placed : (lists : List ShardList) (shard_maps : List Entries) → AreInShardMaps z hs lists shard_maps
      → Each (IsPlaced z) (all_kept shard_maps)
  all-placed [] [] are = tt
  all-placed [] (es ∷ shard_maps) are = absurd are
  all-placed (l ∷ lists) [] are = absurd are
  all-placed (l ∷ lists) (es ∷ shard_maps) are = each-append (IsPlaced z) (frags_kept es) (all_kept shard_maps)
      (values-placed es are.0.values) (all-placed lists shard_maps are.1)

  map-append-spots : (v w : Frags) → spots z (v ++ w) ≡ spots z v ++ spots z w
  map-append-spots [] w = refl
  map-append-spots (p ∷ v) w = ap (λ l. (address_of z p.0, p.1) ∷ l) (map-append-spots v w)

  all-spots : (weight : ℕ × ℕ → ℕ) (lists : List ShardList) (shard_maps : List Entries)
      → AreInShardMaps z hs lists shard_maps
      → total weight (spots z (all_kept shard_maps)) ≡ total weight (fragments_left lists)
  all-spots weight [] [] are = refl
  all-spots weight [] (es ∷ shard_maps) are = absurd are
  all-spots weight (l ∷ lists) [] are = absurd are
  all-spots weight (l ∷ lists) (es ∷ shard_maps) are =
      ap (total weight) (map-append-spots (frags_kept es) (all_kept shard_maps))
      ∙ total-append weight (spots z (frags_kept es)) (spots z (all_kept shard_maps))
      ∙ (λ i. (kept-spots weight es ∙ shard_map-spots weight l es are.0) i + all-spots weight lists shard_maps are.1 i)
      ∙ sym (total-append weight (fragments_by l.told) (fragments_left lists))

-- the values that a shard's deeds leave are those of its map
one_left : (z : Sizes) (hs : List Holding) (list : ShardList) (es : Entries) → IsShardMap z hs list es
    → LieIn z hs list.told
one_left z hs list es is key bytes there =
    by (value_at key es) refl (is.agrees.bytes key ∙ there)
  where
    by : (o : Option Frags) → value_at key es ≡ o → option_map (value_bytes hs) o ≡ Some bytes
        → LiesIn z hs (places_at (final_places list.told) key) bytes
    by None found text = absurd (cc)
    by (Some v) found text = record {
      frags = v;
      value = every-found (IsValue z) (is_key key) es v is.values found;
      placed = sym (places_of z es hs (final_store list.told) (final_places list.told) key is.agrees
          ∙ ap (λ o. value_addresses z (frags_of o)) found);
      filled = every-found (λ (w : Frags). Each (IsFilled hs) w) (is_key key) es v is.filled found;
      bytes_are = (let e : value_bytes hs v ≡ bytes = cc in e);
    }

pub values_left : (z : Sizes) (hs : List Holding) (lists : List ShardList) (shard_maps : List Entries)
    → AreInShardMaps z hs lists shard_maps → Each (λ (shard : ShardList). LieIn z hs shard.told) lists
values_left z hs [] shard_maps are = tt
values_left z hs (l ∷ lists) [] are = absurd are
values_left z hs (l ∷ lists) (es ∷ shard_maps) are =
    (one_left z hs l es are.0, values_left z hs lists shard_maps are.1)

pub are_parts : (z : Sizes) (count : ℕ) (lists : List ShardList) (journal : List (List Entry)) (seat : View)
    → AreGathered z count lists journal seat → AreParts z count lists journal seat
are_parts z count lists journal seat is = record {
  numbered = is.numbered;
  legal = is.legal;
  journal_is = is.journal_is;
  stock = record {
    kept = all_kept z seat.holds is.shard_maps;
    holds = λ weight. total-map weight hold_key seat.holds ∙ is.exact weight
        ∙ sym (all-keys z seat.holds weight is.shard_maps);
    placed = all-placed z seat.holds lists is.shard_maps is.in_shard_maps;
    fragments = λ weight. all-spots z seat.holds weight lists is.shard_maps is.in_shard_maps;
  };
  idle = is.idle;
  credits = is.credits;
}
