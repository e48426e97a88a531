-- What a store's shards hold at the end: the fragments of their final values, and nothing else.
use Rattle.std.specs.Prelude.{◌≡◌, ℕ, List, [], map, length, zip, Some}
use Rattle.std.specs.List.{flat_map, range_with_len}
use Rattle.std.specs.FinMap as finite
use Rattle.view_sums.specs.Total.{Each, SameItems}
use Rattle.flake_base.specs.declared.journal.Entry.{Entry}
use Rattle.flake_model.specs.Deed.{Deed, IsLegal, places_at, final_store, final_places}
use Rattle.flake_model.specs.Fragments.{fragments_of}
use Rattle.pin_core.specs.Holding.{Holding}
use Rattle.pin_core.specs.declared.sizes.Sizes.{Sizes}
use Rattle.pinned_pool.specs.Addresses.{address_of}
use Rattle.pinned_pool.specs.Moves.{hold_key}
use Rattle.pinned_pool.specs.declared.view.View.{View}
use Rattle.frag_value.specs.Values.{IsPlaced, IsValue, IsFilled, keys_of, value_bytes}
use Rattle.order_book.specs.Pages.{ShardList}
use Rattle.order_book.specs.Closed.{journal_of}

-- the fragments of the values that these deeds leave, each as its address and its length
abbrev pub fragments_by : List Deed → List (ℕ × ℕ)
fragments_by deeds =
    flat_map
    (λ (entry : List ℕ × List ℕ). zip (places_at (final_places deeds) entry.0) (map length (fragments_of entry.1)))
    (finite.entries (final_store deeds))

abbrev pub fragments_left : List ShardList → List (ℕ × ℕ)
fragments_left shards = flat_map (λ (shard : ShardList). fragments_by shard.told) shards

-- The seat has one hold, not pinned, for each fragment of the shards' final values, and no other hold.
pub record IsStock (z : Sizes) (shards : List ShardList) (seat : View) : Type 0 where
  -- the fragments, each as its buffer and its length
  pub kept : List (ℕ × ℕ)
  pub holds : SameItems (map hold_key seat.holds) (keys_of kept)
  -- each lies in a buffer of its class
  pub placed : Each (IsPlaced z) kept
  pub fragments : SameItems (map (λ (p : ℕ × ℕ). (address_of z p.0, p.1)) kept) (fragments_left shards)

-- A value lies in these holds: its fragments have these places, each in a buffer of its class, and their fronts have
-- its bytes.
pub record LiesIn (z : Sizes) (holds : List Holding) (places bytes : List ℕ) : Type 0 where
  pub frags : List (ℕ × ℕ)
  pub value : IsValue z frags
  pub placed : map (λ (p : ℕ × ℕ). address_of z p.0) frags ≡ places
  pub filled : Each (IsFilled holds) frags
  pub bytes_are : value_bytes holds frags ≡ bytes

-- so does each value that these deeds leave, at the places that they leave
abbrev pub LieIn : Sizes → List Holding → List Deed → Type 0
LieIn z holds deeds = (key bytes : List ℕ) → finite.get (final_store deeds) key ≡ Some bytes
    → LiesIn z holds (places_at (final_places deeds) key) bytes

-- the seat's holds have the bytes of all values that the shards' deeds leave
abbrev pub HasValuesLeft : Sizes → List ShardList → View → Type 0
HasValuesLeft z shards seat = Each (λ (shard : ShardList). LieIn z seat.holds shard.told) shards

-- a seat that never claimed
pub record IsIdle (seat : View) : Type 0 where
  pub claims : seat.claims ≡ []
  pub looks : seat.looks ≡ []

-- The store's parts: the lists of all shards, each at the place of its number, the journal that they make, and the seat
-- that holds the final values.
pub record AreParts (z : Sizes) (count : ℕ) (shards : List ShardList) (journal : List (List Entry)) (seat : View)
    : Type 0 where
  pub numbered : map (λ (shard : ShardList). shard.number) shards ≡ range_with_len 0 count
  pub legal : Each (λ (shard : ShardList). IsLegal shard.told) shards
  pub journal_is : journal ≡ journal_of shards
  pub stock : IsStock z shards seat
  pub idle : IsIdle seat
  pub credits : seat.credits ≡ count
