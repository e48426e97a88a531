-- Shards that came out from behind their locks, the first ones of a store.
use Rattle.std.specs.Prelude.{◌≡◌, ℕ, ◌+◌, ◌≤◌, min, List, [], ◌∷◌, map, ⊤}
use Rattle.std.specs.Global.{Vec}
use Rattle.std.specs.List.{range_with_len, IsDistinct}
use Rattle.view_sums.specs.Total.{total, Each}
use Rattle.pin_core.specs.Holding.{Holding, Key}
use Rattle.pin_core.specs.declared.sizes.Sizes.{Sizes}
use Rattle.pinned_pool.specs.Moves.{hold_key}
use Rattle.pinned_pool.specs.declared.view.View.{View}
use Rattle.flake_base.specs.declared.journal.Entry.{Entry}
use Rattle.flake_base.specs.Roomy.{Roomy}
use Rattle.flake_model.specs.Deed.{IsLegal, final_store, final_places}
use Rattle.frag_value.specs.Values.{IsValue, IsFilled}
use Rattle.order_book.specs.Pages.{ShardList}
use Rattle.order_book.specs.Closed.{journal_of}
use Rattle.shard_core.specs.Keys.{key_eq}
use Rattle.shard_core.specs.Kept.{Entries, entries_weight, Agrees}
use Rattle.frag_value.specs.Values.{Frags}
use Rattle.shard_core.specs.ShardMaps.{keys_on}
use Rattle.shard_core.specs.Stock.{IsIdle}
use Rattle.flake_base.specs.Histories.{histories}

-- at each key of what a shard's deeds leave lie its value's fragments, at the deeds' places, filled with its bytes
pub record IsShardMap (z : Sizes) (holds : List Holding) (list : ShardList) (entries : Entries) : Type 0 where
  pub distinct : IsDistinct key_eq (keys_on entries)
  pub values : Each (λ (e : Vec ℕ × Frags). IsValue z e.1) entries
  pub filled : Each (λ (e : Vec ℕ × Frags). Each (IsFilled holds) e.1) entries
  pub agrees : Agrees z entries holds (final_store list.told) (final_places list.told)

-- a shard map for each list
abbrev pub AreInShardMaps : Sizes → List Holding → List ShardList → List Entries → Type 0
AreInShardMaps z holds [] [] = ⊤
AreInShardMaps z holds [] (entries ∷ shard_maps) = ⊥
AreInShardMaps z holds (list ∷ lists) [] = ⊥
AreInShardMaps z holds (list ∷ lists) (entries ∷ shard_maps) =
    IsShardMap z holds list entries × AreInShardMaps z holds lists shard_maps

-- the weight of the keys of the fragments of all shard maps' values
abbrev pub weighed_in : (Key → ℕ) → List Entries → ℕ
weighed_in weight shard_maps = total (λ (entries : Entries). entries_weight weight entries) shard_maps

-- The first shards: each journal is its list's entries, each list is legal, and the seat's holds are exactly the
-- fragments of the values that the lists leave.
pub record AreGathered (z : Sizes) (count : ℕ) (shards : List ShardList) (journal : List (List Entry)) (seat : View)
    : Type 0 where
  pub numbered : map (λ (shard : ShardList). shard.number) shards ≡ range_with_len 0 count
  pub legal : Each (λ (shard : ShardList). IsLegal shard.told) shards
  pub journal_is : journal ≡ journal_of shards
  pub shard_maps : List Entries
  pub in_shard_maps : AreInShardMaps z seat.holds shards shard_maps
  pub exact : (weight : Key → ℕ) → total (λ (h : Holding). weight (hold_key h)) seat.holds
      ≡ weighed_in weight shard_maps
  pub idle : IsIdle seat
  pub credits : seat.credits ≡ count

-- those of the shards below a number, and room for the others
pub record AreTaken (z : Sizes) (number count : ℕ) (books : Roomy ShardList) (journal : Roomy (Roomy Entry))
    (seat : View) : Type 0 where
  pub gathered : AreGathered z (min number count) books.items (histories journal.items) seat
  pub room : count ≤ journal.spare + min number count
  pub spare : count ≤ books.spare + min number count
