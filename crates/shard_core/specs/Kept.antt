-- What a shard's map and its seat hold together.
use Rattle.std.specs.Prelude.{◌≡◌, ℕ, ◌+◌, List, [], map, Option, unwrap_or}
use Rattle.std.specs.Global.{Vec}
use Rattle.std.specs.Map.{lookup}
use Rattle.std.specs.Option.{option_map}
use Rattle.std.specs.FinMap as finite
use Rattle.view_sums.specs.Total.{total, Each}
use Rattle.pin_core.specs.Holding.{Holding, Key}
use Rattle.pin_core.specs.declared.sizes.Sizes.{Sizes}
use Rattle.pinned_pool.specs.Addresses.{address_of}
use Rattle.pinned_pool.specs.Moves.{hold_key}
use Rattle.pinned_pool.specs.declared.view.View.{View}
use Rattle.flake_base.specs.declared.segment.Seg.{Seg}
use Rattle.flake_model.specs.Store.{Store}
use Rattle.flake_model.specs.Deed.{Places}
use Rattle.frag_value.specs.Values.{IsValue, IsFilled, keys_of, value_bytes}
use Rattle.shard_core.specs.Keys.{is_key}
use Rattle.frag_value.specs.Values.{Frags}

-- the entries of the map: keys, each with its value
abbrev pub Entries : Type 0
Entries = List (Vec ℕ × Frags)

-- the value at a key
abbrev pub value_at : List ℕ → Entries → Option Frags
value_at key entries = lookup (is_key key) entries

abbrev pub frags_of : Option Frags → Frags
frags_of old = unwrap_or old []

-- the bytes that a key has
abbrev pub bytes_kept : List ℕ → Entries → List Holding → Option (List ℕ)
bytes_kept key entries holds = option_map (value_bytes holds) (value_at key entries)

-- the weight of the keys of all fragments
abbrev pub entries_weight : (Key → ℕ) → Entries → ℕ
entries_weight weight entries = total (λ (e : Vec ℕ × Frags). total weight (keys_of e.1)) entries

-- The holds are exactly the fragments of the map's values, and of a value that is in hand besides: no weight tells the
-- keys of the holds from the keys that the fragments ask for. So none is pinned.
pub record AreHeld (z : Sizes) (entries : Entries) (hand : Frags) (holds : List Holding) : Type 0 where
  pub values : Each (λ (e : Vec ℕ × Frags). IsValue z e.1) entries
  pub filled : Each (λ (e : Vec ℕ × Frags). Each (IsFilled holds) e.1) entries
  pub in_hand : Each (IsFilled holds) hand
  pub exact : (weight : Key → ℕ)
      → total (λ (h : Holding). weight (hold_key h)) holds ≡ entries_weight weight entries + total weight (keys_of hand)

-- what a shard's seat has besides its holds: one credit, and nothing was claimed or looked at
pub record IsPoor (own : View) : Type 0 where
  pub credits : own.credits ≡ 1
  pub claims : own.claims ≡ []
  pub looks : own.looks ≡ []

pub record IsKept (z : Sizes) (entries : Entries) (own : View) : Type 0 where
  pub poor : IsPoor own
  pub held : AreHeld z entries [] own.holds

abbrev pub value_addresses : Sizes → Frags → List ℕ
value_addresses z v = map (λ (p : ℕ × ℕ). address_of z p.0) v

-- the fragments as segments
abbrev pub segs_of : Sizes → Frags → List Seg
segs_of z v = map (λ (p : ℕ × ℕ). record { address = address_of z p.0; len = p.1 }) v

-- at each key lie the bytes of the store, at its places
pub record Agrees (z : Sizes) (entries : Entries) (holds : List Holding) (store : Store) (places : Places)
    : Type 0 where
  pub bytes : (key : List ℕ) → option_map (value_bytes holds) (value_at key entries) ≡ finite.get store key
  pub places_are : (key : List ℕ) → option_map (value_addresses z) (value_at key entries) ≡ finite.get places key

-- all stores that agreed still do
abbrev pub StillAgrees : Sizes → Entries → List Holding → Entries → List Holding → Type 0
StillAgrees z es hs now holds = (s : Store) (p : Places) → Agrees z es hs s p → Agrees z now holds s p

-- credits, claims and looks are as before
pub record KeepsIdle (old new : View) : Type 0 where
  pub credits : new.credits ≡ old.credits
  pub claims : new.claims ≡ old.claims
  pub looks : new.looks ≡ old.looks

-- nothing changed, and no segment was shown
pub record IsAsBefore (es now : Entries) (own new : View) (segs_before segs : List Seg) : Type 0 where
  pub entries : now ≡ es
  pub seat : new ≡ own
  pub segs_are : segs ≡ segs_before
