-- The shards' seats, put behind locks and taken out again.
use Rattle.std.proofs.Common.{◌≡◌, ℕ, zero, suc, ◌+◌, ◌<◌, ◌≤◌, min, Bool, true, cond, nat_lt, List, [], ◌∷◌, ◌++◌}
use Rattle.std.proofs.Common.{length, map, sym, refl, ap, ◌∙◌, subst, arith}
use Rattle.std.proofs.lemmas.List.{map-append, length-append}
use Rattle.std.specs.List.{range_with_len, IsDistinct}
use Rattle.view_sums.specs.Total.{total, Each}
use Rattle.view_sums.proofs.Sums.{total-append}
use Rattle.view_sums.proofs.Eachs.{each-append, each-front, each-back}
use Rattle.pin_core.specs.Holding.{Holding, Key}
use Rattle.pin_core.specs.declared.sizes.Sizes.{Sizes}
use Rattle.pinned_pool.specs.Moves.{meant_count, same_key, hold_key, front_of, joined_views, loose_key}
use Rattle.pinned_pool.specs.Named.{IsSeat}
use Rattle.pinned_pool.specs.declared.view.View.{View}
use Rattle.pinned_pool.proofs.Keys.{some-at}
use Rattle.pinned_pool.proofs.AfterSteps.{front-append, front-joined}
use Rattle.flake_base.specs.Roomy.{Roomy}
use Rattle.flake_base.specs.declared.journal.Entry.{Entry}
use Rattle.flake_model.specs.Deed.{entries_of, IsLegal, final_store, final_places}
use Rattle.frag_value.proofs.Lists.{ends-same}
use Rattle.order_book.specs.Pages.{ShardList, new_shard, new_shards}
use Rattle.shard_core.specs.Keys.{key_eq}
use Rattle.shard_core.specs.Kept.{Entries, entries_weight, IsKept}
use Rattle.shard_core.specs.ShardMaps.{ShardMapView, IsBare, keys_on}
use Rattle.shard_core.proofs.Holds.{wanted, counted, same_all, all_filled, still_agrees}
use Rattle.shard_store.specs.Gathered.{IsShardMap, AreInShardMaps, weighed_in, AreGathered, AreTaken}
use Rattle.flake_base.specs.Histories.{histories}
use Rattle.shard_store.specs.Shards.{IsShard}
use borrow.Author.Tests.{ltb-true}

range-snoc : (a n : ℕ) → range_with_len a (suc n) ≡ range_with_len a n ++ (a + n) ∷ []
range-snoc a zero = ap (λ k. k ∷ []) (let e : a ≡ a + zero = omega arith in e)
range-snoc a (suc n) =
    ap (λ l. a ∷ l) (range-snoc (a + 1) n ∙ ap (λ k. range_with_len (a + 1) n ++ k ∷ [])
    (let e : a + 1 + n ≡ a + suc n = omega arith in e))

length-range : (a n : ℕ) → length (range_with_len a n) ≡ n
length-range a zero = refl
length-range a (suc n) = ap suc (length-range (a + 1) n)

length-map : {A B : Type 0} (f : A → B) (xs : List A) → length (map f xs) ≡ length xs
length-map f [] = refl
length-map f (x ∷ xs) = omega (arith, length-map f xs)

pub length-new : (n : ℕ) → length (new_shards n) ≡ n
length-new n = length-map new_shard (range_with_len 0 n) ∙ length-range 0 n

range-last : (i : ℕ) → range_with_len 0 (i + 1) ≡ range_with_len 0 i ++ i ∷ []
range-last i = ap (range_with_len 0) (let s : i + 1 ≡ suc i = omega arith in s) ∙ range-snoc 0 i
    ∙ ap (λ k. range_with_len 0 i ++ k ∷ []) (let e : 0 + i ≡ i = omega arith in e)

-- the last of the new shards
pub last_new : (front : List ShardList) (seat : ShardList) (i : ℕ) → front ++ seat ∷ [] ≡ new_shards (i + 1)
    → (front ≡ new_shards i) × (seat ≡ new_shard i)
last_new front seat i e = ends-same front (new_shards i) seat (new_shard i)
    (e ∙ ap (map new_shard) (range-last i) ∙ map-append new_shard (range_with_len 0 i) (i ∷ []))

-- the last of the bare seats
pub last_bare : (all front : List View) (own : View) (n : ℕ) → all ≡ front ++ own ∷ [] → length all ≡ n + 1
    → Each IsBare all → IsBare own × (length front ≡ n) × Each IsBare front
last_bare all front own n e size bare =
    let both = subst (Each IsBare) e bare in (
      (each-back IsBare front (own ∷ []) both).0,
      omega (arith, ap length e, size, length-append front (own ∷ [])),
      each-front IsBare front (own ∷ []) both,
    )

abbrev wanted_in : Key → List Entries → ℕ
wanted_in k shard_maps = weighed_in (λ j. cond (same_key k j) 1 0) shard_maps

-- shard maps whose holds have the same fronts in another list of holds
module _ (z : Sizes) (hs now : List Holding) where
  shard_map-moved : (list : ShardList) (es : Entries)
      → ((c : ℕ) → 0 < wanted (loose_key c) es → front_of c now ≡ front_of c hs) → IsShardMap z hs list es
      → IsShardMap z now list es
  shard_map-moved list es fronts is =
      let same = same_all es hs now fronts is.filled in
      record {
        distinct = is.distinct;
        values = is.values;
        filled = all_filled z es hs now same;
        agrees = still_agrees z es hs now same (final_store list.told) (final_places list.told) is.agrees;
      }

  in_shard_maps-moved : (lists : List ShardList) (shard_maps : List Entries)
      → ((c : ℕ) → 0 < wanted_in (loose_key c) shard_maps → front_of c now ≡ front_of c hs)
      → AreInShardMaps z hs lists shard_maps
      → AreInShardMaps z now lists shard_maps
  in_shard_maps-moved [] [] fronts is = tt
  in_shard_maps-moved [] (es ∷ shard_maps) fronts is = absurd is
  in_shard_maps-moved (l ∷ lists) [] fronts is = absurd is
  in_shard_maps-moved (l ∷ lists) (es ∷ shard_maps) fronts is = (
    shard_map-moved l es (λ c some. fronts c (omega (arith, some))) is.0,
    in_shard_maps-moved lists shard_maps
        (λ c some. fronts c (omega (arith, some))) is.1,
  )

in_shard_maps-snoc : (z : Sizes) (hs : List Holding) (lists : List ShardList) (shard_maps : List Entries)
    (l : ShardList)
    (es : Entries) → AreInShardMaps z hs lists shard_maps → IsShardMap z hs l es
    → AreInShardMaps z hs (lists ++ l ∷ []) (shard_maps ++ es ∷ [])
in_shard_maps-snoc z hs [] [] l es is one = (one, tt)
in_shard_maps-snoc z hs [] (e ∷ shard_maps) l es is one = absurd is
in_shard_maps-snoc z hs (k ∷ lists) [] l es is one = absurd is
in_shard_maps-snoc z hs (k ∷ lists) (e ∷ shard_maps) l es is one =
    (is.0, in_shard_maps-snoc z hs lists shard_maps l es is.1 one)

-- a shard that came out from behind its lock, with what its shard map tells
pub record IsOut (z : Sizes) (number : ℕ) (shard_map : ShardMapView) (list : ShardList) (items : List Entry) : Type 0
  where
    pub shard : IsShard z number shard_map list items
    pub kept : IsKept z shard_map.entries shard_map.seat
    pub distinct : IsDistinct key_eq (keys_on shard_map.entries)

take_shard_map : (z : Sizes) (number : ℕ) (shard_map : ShardMapView) (list : ShardList) (items : List Entry)
    → IsOut z number shard_map list items → IsShardMap z shard_map.seat.holds list shard_map.entries
take_shard_map z number shard_map list items out = record {
  distinct = out.distinct;
  values = out.kept.held.values;
  filled = out.kept.held.filled;
  agrees = out.shard.agrees;
}

-- one shard's parts
pub first_part : (z : Sizes) (count : ℕ) (books bnew : Roomy ShardList) (journal jnew : Roomy (Roomy Entry))
    (own : View) (shard_map : ShardMapView) (list : ShardList) (items : List Entry) (h : Roomy Entry)
    → IsOut z 0 shard_map list items → own ≡ shard_map.seat → 0 < count
    → journal.items ≡ [] → books.items ≡ [] → count ≤ journal.spare → count ≤ books.spare → h.items ≡ items → jnew.items
    ≡ journal.items ++ h ∷ [] → journal.spare ≤ jnew.spare + 1
    → bnew.items ≡ books.items ++ list ∷ [] → books.spare ≤ bnew.spare + 1 → AreTaken z 1 count bnew jnew own
first_part z count books bnew journal jnew own shard_map list items h out seat some none empty room spare is grew left
    more
    kept =
    let one : min 1 count ≡ 1 = omega arith in
    let lists : bnew.items ≡ list ∷ [] = more ∙ ap (λ l. l ++ list ∷ []) empty in
    let told : histories jnew.items ≡ items ∷ [] = ap histories (grew ∙ ap (λ l. l ++ h ∷ []) none)
    ∙ ap (λ l. l ∷ []) is in
    let gathered : AreGathered z 1 (list ∷ []) (items ∷ []) shard_map.seat = record {
      numbered = ap (λ k. k ∷ []) out.shard.number_is;
      legal = (out.shard.legal, tt);
      journal_is = ap (λ l. l ∷ []) out.shard.journal_is;
      shard_maps = shard_map.entries ∷ [];
      in_shard_maps = (take_shard_map z 0 shard_map list items out, tt);
      exact = λ weight. omega (arith, out.kept.held.exact weight);
      idle = record { claims = out.kept.poor.claims; looks = out.kept.poor.looks };
      credits = out.kept.poor.credits;
    } in
    record {
      gathered = subst (λ (y : ℕ × List ShardList × List (List Entry) × View). AreGathered z y.0 y.1 y.2 y.3)
          (λ i. (sym one i, sym lists i, sym told i, sym seat i)) gathered;
      room = omega (arith, room, left, one);
      spare = omega (arith, spare, kept, one);
    }

-- and one more shard's
one_part : (z : Sizes) (i : ℕ) (lists : List ShardList) (journal : List (List Entry)) (own new : View)
    (shard_map : ShardMapView) (list : ShardList) (items : List Entry) → AreGathered z i lists journal own
    → IsOut z i shard_map list items
    → new ≡ joined_views own shard_map.seat → IsSeat z new → AreGathered z (i + 1) (lists ++ list ∷ [])
    (journal ++ items ∷ []) new
one_part z i lists journal own new shard_map list items was out is seat =
    let other : View = shard_map.seat in
    let was_counted : (k : Key) → meant_count k own.holds ≡ wanted_in k was.shard_maps =
    λ k. was.exact (λ j. cond (same_key k j) 1 0) in
    let holds : new.holds ≡ own.holds ++ other.holds = ap (λ (v : View). v.holds) is in
    let fronts = subst (λ hs. Each (λ (h : Holding). h.front ≡ seat.fronts.0 h.buffer) hs) holds seat.fronts.1 in
    record {
      numbered = map-append (λ (l : ShardList). l.number) lists (list ∷ [])
          ∙ (λ j. was.numbered j ++ out.shard.number_is j ∷ []) ∙ sym (range-last i);
      legal = each-append (λ (l : ShardList). IsLegal l.told) lists (list ∷ []) was.legal (out.shard.legal, tt);
      journal_is = (λ j. was.journal_is j ++ out.shard.journal_is j ∷ [])
          ∙ sym (map-append (λ (l : ShardList). entries_of l.told) lists (list ∷ []));
      shard_maps = was.shard_maps ++ shard_map.entries ∷ [];
      in_shard_maps = in_shard_maps-snoc z new.holds lists was.shard_maps list shard_map.entries
          (in_shard_maps-moved z own.holds new.holds lists was.shard_maps
          (λ c some. ap (front_of c) holds ∙ front-append c own.holds other.holds
          (some-at (loose_key c) own.holds (omega (arith, some, was_counted (loose_key c))))) was.in_shard_maps)
          (shard_map-moved z other.holds new.holds list shard_map.entries
          (λ c some. ap (front_of c) holds ∙ front-joined seat.fronts.0 c own.holds other.holds fronts
          (some-at (loose_key c) other.holds
          (omega (arith, some, counted z shard_map.entries [] other.holds out.kept.held (loose_key c)))))
          (take_shard_map z i shard_map list items out));
      exact = λ weight. omega (
        arith,
        ap (total (λ (h : Holding). weight (hold_key h))) holds,
        total-append
            (λ (h : Holding). weight (hold_key h)) own.holds other.holds,
        was.exact weight,
        out.kept.held.exact weight,
        total-append (λ (e : Entries). entries_weight weight e) was.shard_maps (shard_map.entries ∷ []),
      );
      idle = record {
        claims = ap (λ (v : View). v.claims) is ∙ (λ j. was.idle.claims j ++ out.kept.poor.claims j);
        looks = ap (λ (v : View). v.looks) is ∙ (λ j. was.idle.looks j ++ out.kept.poor.looks j);
      };
      credits = omega (arith, ap (λ (v : View). v.credits) is, was.credits, out.kept.poor.credits);
    }

pub taken : (z : Sizes) (i count : ℕ) (books bnew : Roomy ShardList) (journal jnew : Roomy (Roomy Entry))
    (own new : View) (shard_map : ShardMapView) (list : ShardList) (items : List Entry) (h : Roomy Entry)
    → AreTaken z i count books journal own
    → IsOut z i shard_map list items → i < count → new ≡ joined_views own shard_map.seat → IsSeat z new
    → h.items ≡ items
    → jnew.items ≡ journal.items ++ h ∷ [] → journal.spare ≤ jnew.spare + 1
    → bnew.items ≡ books.items ++ list ∷ [] → books.spare ≤ bnew.spare + 1 → AreTaken z (i + 1) count bnew jnew new
taken z i count books bnew journal jnew own new shard_map list items h was out low is seat same grew left more kept =
    let here : min i count ≡ i = omega arith in
    let next : min (i + 1) count ≡ i + 1 = omega arith in
    let told : histories jnew.items ≡ histories journal.items ++ items ∷ [] = ap histories grew
    ∙ map-append (λ (x : Roomy Entry). x.items) journal.items (h ∷ [])
    ∙ ap (λ l. histories journal.items ++ l ∷ []) same in
    let one = one_part z i books.items (histories journal.items) own new shard_map list items
    (subst (λ n. AreGathered z n books.items (histories journal.items) own) here was.gathered) out is seat in
    record {
      gathered = subst (λ (y : ℕ × List ShardList × List (List Entry)). AreGathered z y.0 y.1 y.2 new)
          (λ k. (sym next k, sym more k, sym told k)) one;
      room = omega (arith, was.room, left);
      spare = omega (arith, was.spare, kept);
    }

pub is_below : (i shards : ℕ) (b : Bool) → b ≡ nat_lt i shards → b ≡ true → i < shards
is_below i shards b e t = ltb-true i shards (sym e ∙ t)
