-- Values that come to a shard, and those that go and come back.
use Rattle.std.specs.Prelude.{◌≡◌, ℕ, ◌+◌, ◌≤◌, List, [], ◌++◌, length, map, Option, Some}
use Rattle.std.specs.FinMap as finite
use Rattle.view_sums.specs.Total.{Each}
use Rattle.pin_core.specs.Holding.{Holding}
use Rattle.pin_core.specs.declared.sizes.Sizes.{Sizes}
use Rattle.pinned_pool.specs.Moves.{hold_key, without_keys}
use Rattle.pinned_pool.specs.declared.view.View.{View}
use Rattle.flake_base.specs.declared.segment.Seg.{Seg}
use Rattle.flake_model.specs.Store.{Store}
use Rattle.flake_model.specs.Deed.{Places}
use Rattle.flake_base.specs.Limits.{value_limit}
use Rattle.frag_value.specs.Values.{IsValue, IsCut, IsFilled, keys_of, value_bytes, size_of, whole_fragments}
use Rattle.shard_core.specs.Kept.{Entries, value_at, frags_of, AreHeld, Agrees, IsPoor, value_addresses, segs_of}
use Rattle.frag_value.specs.Values.{Frags}

-- a value was written into buffers that another seat claimed, and this one has the holds
pub record IsBrought (z : Sizes) (bytes : List ℕ) (v : Frags) (own new : View) : Type 0 where
  pub more : List Holding
  pub gained : new.holds ≡ own.holds ++ more
  pub keys_are : map hold_key more ≡ keys_of v
  pub filled : Each (IsFilled new.holds) v
  pub bytes_are : value_bytes new.holds v ≡ bytes
  pub value : IsValue z v
  pub poor : IsPoor own → IsPoor new

-- Bytes were put at a key: the holds are those of the map and of what the key had, which is in hand.
pub record BytesWerePut (z : Sizes) (key bytes : List ℕ) (es now : Entries) (own new : View) (hand : Option Frags)
    (segs_before segs : List Seg) : Type 0 where
  pub found : hand ≡ value_at key es
  pub poor : IsPoor new
  pub held : AreHeld z now (frags_of hand) new.holds
  pub hand_bytes : value_bytes new.holds (frags_of hand) ≡ value_bytes own.holds (frags_of hand)
  pub value : Frags
  pub stored : value_at key now ≡ Some value
  pub cut : IsCut (length bytes) value
  pub segs_are : segs ≡ segs_before ++ segs_of z value
  pub agrees : (s : Store) (p : Places) → Agrees z es own.holds s p
      → Agrees z now new.holds (finite.insert s key bytes) (finite.insert p key (value_addresses z value))

-- a value went to another seat and another value came back: the owner has its holds in place of those that went
pub record IsCarried (z : Sizes) (v w : Frags) (own new : View) : Type 0 where
  pub more : List Holding
  pub gained : new.holds ≡ without_keys (keys_of v) own.holds ++ more
  pub keys_are : map hold_key more ≡ keys_of w
  pub filled : Each (IsFilled new.holds) w
  pub value : IsValue z w
  pub poor : IsPoor own → IsPoor new

-- a value with bytes behind it: the full fragments stay, and where there are no bytes all do
pub record IsLonger (v w : Frags) (bytes : List ℕ) (own new : List Holding) : Type 0 where
  pub bytes_are : value_bytes new w ≡ value_bytes own v ++ bytes
  pub few : size_of v + length bytes ≤ value_limit
  pub added : Frags
  pub parts : w ≡ whole_fragments v ++ added
  pub same : bytes ≡ [] → w ≡ v
