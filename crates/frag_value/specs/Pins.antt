-- Values under pinned holds.
use Rattle.std.specs.Prelude.{◌≡◌, ℕ, ◌+◌, ◌-◌, ◌<◌, ◌≤◌, List, ◌++◌, length, map, true}
use Rattle.std.specs.List.{flat_map}
use Rattle.view_sums.specs.Total.{total, Each}
use Rattle.pin_core.specs.Holding.{Holding, Key, at}
use Rattle.pinned_pool.specs.Moves.{front_of, pinned_hold, meant_count, without_keys}
use Rattle.pinned_pool.specs.Views.{view, among}
use Rattle.pinned_pool.specs.declared.view.View.{View}
use Rattle.frag_value.specs.Values.{Frags, IsFilled, uses, value_bytes}

-- a taker's key
abbrev pub pin_key : ℕ → Key
pin_key b = record { buffer = b; pinned = true }

abbrev pub pin_keys : Frags → List Key
pin_keys v = map (λ (p : ℕ × ℕ). pin_key p.0) v

-- a pinned hold for each fragment, with what its buffer has
abbrev pub pin_holds : List Holding → Frags → List Holding
pin_holds hs v = map (λ (p : ℕ × ℕ). pinned_hold p.0 (front_of p.0 hs)) v

-- the seat has these holds more, each paid with a credit
abbrev pub pinning : List Holding → View → View
pinning pins v = view (v.holds ++ pins) (v.credits - length pins) v.claims v.looks v.returns v.lasts

-- among these holds is a pinned one for each fragment, and each fragment lies in its buffer's front
pub record IsPinned (hs : List Holding) (v : Frags) : Type 0 where
  pub held : (b : ℕ) → uses b v ≤ meant_count (pin_key b) hs
  pub filled : Each (IsFilled hs) v

-- a pinned hold for each fragment was given back with its credit; n of them were the last of their buffers
pub record AreReturned (v : Frags) (n : ℕ) (old new : View) : Type 0 where
  pub holds : new.holds ≡ without_keys (pin_keys v) old.holds
  pub credits : new.credits ≡ old.credits + length v
  pub claims : new.claims ≡ old.claims
  pub looks : new.looks ≡ old.looks
  pub returns : new.returns ≡ old.returns + length v
  pub ended : List ℕ
  pub lasts : new.lasts ≡ old.lasts ++ ended
  pub count : length ended ≡ n
  -- they are fragments of the value, and of none of their buffers the seat has a hold
  pub of_value : (b : ℕ) → among b ended ≤ uses b v
  pub gone : (b : ℕ) → 0 < among b ended → total (at b) new.holds ≡ 0

-- a key, and its value's fragments
abbrev pub KeyFrags : Type 0
KeyFrags = List ℕ × Frags

-- the fragments of all values, in order
abbrev pub all_frags : List KeyFrags → Frags
all_frags pairs = flat_map (λ (p : KeyFrags). p.1) pairs

-- the keys with their values' bytes
abbrev pub pairs_shown : List Holding → List KeyFrags → List (List ℕ × List ℕ)
pairs_shown hs pairs = map (λ (p : KeyFrags). (p.0, value_bytes hs p.1)) pairs
