-- The kinds of step on a pool's table, and what is true of each.
use Rattle.std.specs.Prelude.{◌≡◌, ◌≢◌, ℕ, ◌+◌, ◌-◌, ◌<◌, ◌≤◌, List, [], ◌∷◌, ◌++◌, Bool, ◌==◌, length, map}
use Rattle.std.specs.Prelude.{slice_index, slice_set}
use mathlib.Core.Option.{some}
use lib.ListN.{get_elem?}
use Rattle.view_sums.specs.Total.{total}
use Rattle.pin_core.specs.Buffers.{buffers, buffer_words}
use Rattle.pin_core.specs.Holding.{Holding, Key, at, sole_at}
use Rattle.pin_core.specs.PinStep.{Event, give, move, PinSteps}
use Rattle.pin_core.specs.PinStep as event
use Rattle.pin_core.specs.declared.sizes.Sizes.{Sizes}
use Rattle.pinned_pool.specs.Views.{nobody, all_holds}
use Rattle.pinned_pool.specs.Rule.{word_at, pins_of, IsSoundTable}
use Rattle.pinned_pool.specs.Moves.{hold_key, meant_count, holds_for, front_of, won, lost, pin, put, unpin, split_old}
use Rattle.pinned_pool.specs.Moves.{split_new}
use Rattle.pinned_pool.specs.Moves.{joined_views}
use Rattle.pinned_pool.specs.declared.view.View.{View}

pub data PoolStep : Type 0 where
  -- a claim that found 0, and one that found another number
  wins : ℕ → PoolStep
  misses : ℕ → PoolStep
  -- a load that changes nothing: of a count word that is 0, or for what the rule says
  peeks : ℕ → PoolStep
  -- of a buffer, at an index, of a word
  puts : ℕ → ℕ → ℕ → PoolStep
  loads : ℕ → ℕ → PoolStep
  pins : ℕ → PoolStep
  unpins : Key → PoolStep
  -- the holds of these keys and so many credits become a new seat's
  splits : List Key → ℕ → PoolStep
  -- the seat with this number and view is taken in
  joins : ℕ → View → PoolStep

-- what the seat with the view v makes of these words and views
module _ (z : Sizes) (ws : List ℕ) (vs : List View) (seat : ℕ) (v : View) where
  pub record MakesWin (b : ℕ) (new : List ℕ) (after : List View) : Type 0 where
    pub near : b < buffers z
    pub free : slice_index ws b ≡ 0
    pub words : new ≡ slice_set ws b 1
    pub views : after ≡ slice_set vs seat (won b v)

  pub record MakesMiss (b : ℕ) (new : List ℕ) (after : List View) : Type 0 where
    pub near : b < buffers z
    pub taken : slice_index ws b ≢ 0
    pub words : new ≡ ws
    pub views : after ≡ slice_set vs seat (lost b (slice_index ws b) v)

  pub record MakesPeek (b : ℕ) (new : List ℕ) (after : List View) : Type 0 where
    pub near : b < buffers z
    pub words : new ≡ ws
    pub views : after ≡ vs

  pub record MakesPut (b i x : ℕ) (new : List ℕ) (after : List View) : Type 0 where
    pub exclusive : 0 < total (sole_at b) v.holds
    pub in_front : i ≤ length (front_of b v.holds)
    pub in_buffer : i < buffer_words z b
    pub words : new ≡ slice_set ws (word_at z b i) x
    pub views : after ≡ slice_set vs seat (put b i x v)

  pub record MakesLoad (b i : ℕ) (new : List ℕ) (after : List View) : Type 0 where
    pub held : 0 < total (at b) v.holds
    pub in_front : i < length (front_of b v.holds)
    pub words : new ≡ ws
    pub views : after ≡ vs

  pub record MakesPin (b : ℕ) (new : List ℕ) (after : List View) : Type 0 where
    pub held : 0 < total (at b) v.holds
    pub rich : 1 < v.credits
    pub words : new ≡ slice_set ws b (slice_index ws b + 1)
    pub views : after ≡ slice_set vs seat (pin b v)

  pub record MakesUnpin (k : Key) (new : List ℕ) (after : List View) : Type 0 where
    pub held : 0 < meant_count k v.holds
    pub words : new ≡ slice_set ws k.buffer (slice_index ws k.buffer - 1)
    pub views : after ≡ slice_set vs seat (unpin (slice_index ws k.buffer == 1) k v)

  pub record MakesSplit (ks : List Key) (n : ℕ) (new : List ℕ) (after : List View) : Type 0 where
    pub some : 0 < n
    pub fewer : n < v.credits
    pub words : new ≡ ws
    pub views : after ≡ slice_set vs seat (split_old ks n v) ++ split_new ks n v ∷ []

  pub record MakesJoin (other : ℕ) (w : View) (new : List ℕ) (after : List View) : Type 0 where
    pub apart : other ≢ seat
    pub sits : get_elem? vs other ≡ some w
    pub words : new ≡ ws
    pub views : after ≡ slice_set (slice_set vs seat (joined_views v w)) other nobody

  abbrev pub Makes : PoolStep → List ℕ → List View → Type 0
  Makes (wins b) new after = MakesWin b new after
  Makes (misses b) new after = MakesMiss b new after
  Makes (peeks b) new after = MakesPeek b new after
  Makes (puts b i x) new after = MakesPut b i x new after
  Makes (loads b i) new after = MakesLoad b i new after
  Makes (pins b) new after = MakesPin b new after
  Makes (unpins k) new after = MakesUnpin k new after
  Makes (splits ks n) new after = MakesSplit ks n new after
  Makes (joins other w) new after = MakesJoin other w new after

-- each of the holds goes to another seat
abbrev pub move_all : List Holding → ℕ → ℕ → List (Event ℕ)
move_all hs from taker = map (λ h. move (hold_key h) from taker) hs

-- the events of the plain list of holds
abbrev pub events : List View → ℕ → View → PoolStep → List (Event ℕ)
events vs seat v (wins b) = event.claim b seat ∷ []
events vs seat v (misses b) = []
events vs seat v (peeks b) = []
events vs seat v (puts b i x) = event.put b seat i x ∷ []
events vs seat v (loads b i) = event.load b seat i ∷ []
events vs seat v (pins b) = event.pin b seat seat ∷ []
events vs seat v (unpins k) = event.unpin k seat ∷ []
events vs seat v (splits ks n) = move_all (holds_for ks v.holds) seat (length vs) ++ give seat (length vs) n ∷ []
events vs seat v (joins other w) = move_all w.holds other seat ++ give other seat w.credits ∷ []

-- a count word falls to 0 by the unpin that met 1, and by nothing else
abbrev pub FallsByLast : Sizes → List ℕ → PoolStep → List ℕ → Type 0
FallsByLast z ws kind new =
    (b : ℕ) → b < buffers z → 0 < slice_index ws b → slice_index new b ≡ 0
    → (slice_index ws b ≡ 1) × ((pinned : Bool) × (kind ≡ unpins (record { buffer = b; pinned = pinned })))

-- a data word changes by a put, under the only hold of its buffer, and by nothing else
abbrev pub WrittenByPut : Sizes → List ℕ → List View → View → PoolStep → List ℕ → Type 0
WrittenByPut z ws vs v kind new =
    (k : ℕ) → buffers z ≤ k → slice_index new k ≢ slice_index ws k
    → (b : ℕ) × (i : ℕ) × (x : ℕ) × (k ≡ word_at z b i) × (kind ≡ puts b i x)
    × (0 < total (sole_at b) v.holds) × (all_holds (at b) vs ≡ 1)

pub record IsItsEvents (z : Sizes) (ws : List ℕ) (vs : List View) (seat : ℕ) (v : View) (kind : PoolStep)
    (new : List ℕ) (after : List View) : Type 0 where
  pub sound : IsSoundTable z new after
  pub steps : PinSteps z (pins_of z ws vs) (events vs seat v kind) (pins_of z new after)
  pub falls : FallsByLast z ws kind new
  pub written : WrittenByPut z ws vs v kind new

-- each kind of step by a live seat keeps the rule, and is its events
abbrev pub StepsAreEvents : Type 0
StepsAreEvents =
    (z : Sizes) (ws new : List ℕ) (vs after : List View) (seat : ℕ) (v : View) (kind : PoolStep)
    → IsSoundTable z ws vs → get_elem? vs seat ≡ some v → 0 < v.credits → Makes z ws vs seat v kind new after
    → IsItsEvents z ws vs seat v kind new after
