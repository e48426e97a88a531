-- A dump on its way from the shards to a wire.
use Rattle.std.specs.Prelude.{◌≡◌, ℕ, Bool, false, ◌+◌, ◌≤◌, List, [], ◌++◌, length, map}
use Rattle.std.specs.List.{range_with_len}
use Rattle.std.specs.Fmt.{decimal}
use Rattle.std.specs.Borrow.{Bor}
use Rattle.any_wire.specs.Sends.{Sends, Flushes}
use Rattle.view_sums.specs.Total.{total, Each}
use Rattle.pin_core.specs.Holding.{Holding}
use Rattle.pinned_pool.specs.Moves.{meant_count, without_keys}
use Rattle.pinned_pool.specs.declared.view.View.{View}
use Rattle.frag_value.specs.Values.{Frags, size_of, uses}
use Rattle.order_book.specs.Closed.{IsShared}
use Rattle.order_book.specs.Pages.{SessionList}
use Rattle.dump_model.specs.Dump.{pairs_text}
use Rattle.dump_model.specs.Seen.{ShardSeen, list_seen, pairs_seen}
use Rattle.frag_value.specs.Pins.{KeyFrags, IsPinned, all_frags, pairs_shown, pin_key, pin_keys}

-- how long the request is that sets a key to its value, and all of them
abbrev pub pair_length : KeyFrags → ℕ
pair_length p = length p.0 + size_of p.1 + (23 + length (decimal (length p.0)) + length (decimal (size_of p.1)))

abbrev pub pairs_length : List KeyFrags → ℕ
pairs_length pairs = total pair_length pairs

-- what contracts see of a dump: how many deeds of each shard it stands behind, its text, and the seat of its holds
pub record DumpView : Type 0 where
  pub points : List ℕ
  pub text : List ℕ
  pub seat : View

-- a pinned hold for each fragment was given back, with its credit
pub record GivesHolds (v : Frags) (old new : View) : Type 0 where
  pub holds : new.holds ≡ without_keys (pin_keys v) old.holds
  pub credits : new.credits ≡ old.credits + length v
  pub claims : new.claims ≡ old.claims
  pub looks : new.looks ≡ old.looks
  pub returns : new.returns ≡ old.returns + length v
  pub lasts : (more : List ℕ) × (new.lasts ≡ old.lasts ++ more)

-- all holds of a seat, which are pinned, were given back with their credits
pub record IsEmptied (old new : View) : Type 0 where
  pub holds : new.holds ≡ []
  pub credits : new.credits ≡ old.credits + length old.holds
  pub claims : new.claims ≡ old.claims
  pub looks : new.looks ≡ old.looks
  pub returns : new.returns ≡ old.returns + length old.holds
  pub lasts : (more : List ℕ) × (new.lasts ≡ old.lasts ++ more)

-- a seat without holds took some, each for a credit; its claims and looks are as before
pub record HasTakenHolds (old new : View) : Type 0 where
  pub credits : new.credits + length new.holds ≡ old.credits
  pub claims : new.claims ≡ old.claims
  pub looks : new.looks ≡ old.looks

-- there are as many holds as fragments, and a pinned one for each
pub record HoldsFor (hs : List Holding) (v : Frags) : Type 0 where
  pub count : length hs ≡ length v
  pub held : (b : ℕ) → uses b v ≤ meant_count (pin_key b) hs

abbrev pub dump_view : List ℕ → List KeyFrags → View → DumpView
dump_view points pairs seat =
    record { points = points; text = pairs_text (pairs_shown seat.holds pairs); seat = seat }

-- the seat has the holds of these pairs and no other, and their text has this length
pub record IsHeldDump (len : ℕ) (pairs : List KeyFrags) (seat : View) : Type 0 where
  pub len_is : len ≡ pairs_length pairs
  pub count : length seat.holds ≡ length (all_frags pairs)
  pub has : IsPinned seat.holds (all_frags pairs)

-- holds, credits, claims and looks are as before
pub record IsSameSeat (old new : View) : Type 0 where
  pub holds : new.holds ≡ old.holds
  pub credits : new.credits ≡ old.credits
  pub claims : new.claims ≡ old.claims
  pub looks : new.looks ≡ old.looks

-- the session's deeds stay, and it may have seen more
pub record KeepsDeeds (old new : SessionList) : Type 0 where
  pub number : new.number ≡ old.number
  pub told : new.told ≡ old.told
  pub looks : (more : List ShardSeen) × (new.looks ≡ old.looks ++ more)

-- The session saw each of so many shards, and the text is of what they had.
pub record TookDump (shards : ℕ) (old new : SessionList) (points text : List ℕ) : Type 0 where
  pub seen : List ShardSeen
  pub number_is : new.number ≡ old.number
  pub told_is : new.told ≡ old.told
  pub looks_are : new.looks ≡ old.looks ++ seen
  pub numbered : map (λ (look : ShardSeen). look.0) seen ≡ range_with_len 0 shards
  pub points_are : points ≡ map (λ (look : ShardSeen). length look.1) seen
  pub text_is : text ≡ pairs_text (pairs_seen seen)
  pub shared : Each (λ (look : ShardSeen). IsShared (list_seen look) old) seen

module _ {W : Type 0} (put_may : W → Bor (List ℕ) → (W × Bool) → Type 0) (flush_may : W → (W × Bool) → Type 0) where
  -- the text is put, and the wire is flushed where no put failed
  abbrev pub PutsAndFlushes : Bool → List ℕ → W → W → Type 0
  PutsAndFlushes failed text w end =
      (v : W) × (between : Bool) × Sends put_may (λ w r. ⊥) false between text w v
      × Flushes flush_may between failed v end
