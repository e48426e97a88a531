-- A seat that holds values and nothing else.
use Rattle.std.specs.Prelude.{◌≡◌, ℕ, ◌<◌, List, [], ◌∷◌, ◌++◌, length}
use Rattle.view_sums.specs.Total.{total, Each, SameItems}
use Rattle.pin_core.specs.Holding.{Holding, Key, pin_of}
use Rattle.pin_core.specs.declared.sizes.Sizes.{Sizes}
use Rattle.pin_core.specs.declared.class.Class.{Class}
use Rattle.pin_core.specs.declared.class.Class.TheVariants.{Small, Large}
use Rattle.pinned_pool.specs.Classes.{class_at, just}
use Rattle.pinned_pool.specs.Ends.{pool_end}
use Rattle.pinned_pool.specs.Moves.{hold_key, holds_for, joined_views, losing, gaining}
use Rattle.pinned_pool.specs.Named.{IsSeat}
use Rattle.pinned_pool.specs.Views.{IsLoose}
use Rattle.pinned_pool.specs.declared.view.View.{View}
use Rattle.frag_value.specs.Values.{Frags, IsValue, IsFilled, HasValue, keys_of, size_of, unmarked_view}
use Rattle.frag_value.specs.Changes.{IsWritten, IsAppended, IsReleased}
use Rattle.frag_value.specs.Counts.{class_buffers_for}
use Rattle.frag_value.specs.Taken.{HandsOver}

-- the weight of the keys of all values' fragments
abbrev pub values_weight : (Key → ℕ) → List Frags → ℕ
values_weight weight values = total (λ (v : Frags). total weight (keys_of v)) values

-- The holds are exactly those of these values: no weight tells the keys of the holds from those of the fragments.
pub record HasExactly (z : Sizes) (hs : List Holding) (values : List Frags) : Type 0 where
  pub are_values : Each (IsValue z) values
  pub filled : Each (λ (v : Frags). Each (IsFilled hs) v) values
  pub exact : (weight : Key → ℕ) → total (λ (h : Holding). weight (hold_key h)) hs ≡ values_weight weight values

-- how many holds are of buffers of the class
abbrev pub holds_in : Sizes → Class → List Holding → ℕ
holds_in z class hs = total (λ (h : Holding). just (class_at z h.buffer) 1 class) hs

-- how many buffers of the class all values take
abbrev pub buffers_for_all : Class → List Frags → ℕ
buffers_for_all class values = total (λ (v : Frags). class_buffers_for class (size_of v)) values

-- What becomes of the values that a seat has.
pub record ValuesComeAndGo : Type 0 where
  pub none : (z : Sizes) → HasExactly z [] []
  -- a value more
  pub written : (z : Sizes) (v : Frags) (values : List Frags) (bytes : List ℕ) (old new : View)
      → IsSeat z new → IsValue z v → HasExactly z old.holds values → IsWritten bytes v old new
      → HasExactly z new.holds (v ∷ values)
  pub gained : (z : Sizes) (v : Frags) (values : List Frags) (from into new : View)
      → IsSeat z from → IsSeat z new → IsValue z v → HasValue from.holds v → HasExactly z into.holds values
      → new ≡ gaining (holds_for (keys_of v) from.holds) into → HasExactly z new.holds (v ∷ values)
  -- a longer one in a value's place
  pub appended : (z : Sizes) (v w : Frags) (values : List Frags) (bytes : List ℕ) (old new : View)
      → IsSeat z old → IsSeat z new → IsValue z w → 0 < length bytes → HasExactly z old.holds (v ∷ values)
      → IsAppended v bytes w old new → HasExactly z new.holds (w ∷ values)
  -- a value less
  pub released : (z : Sizes) (v : Frags) (values : List Frags) (n : ℕ) (old new : View) → IsSeat z old
      → HasExactly z old.holds (v ∷ values) → IsReleased v n old new → HasExactly z new.holds values
  pub handed : (z : Sizes) (v : Frags) (values : List Frags) (old new : View) → IsSeat z old
      → HasExactly z old.holds (v ∷ values) → HandsOver v old new → HasExactly z new.holds values
  pub lost : (z : Sizes) (v : Frags) (values : List Frags) (old new : View) → IsSeat z old
      → HasExactly z old.holds (v ∷ values) → new ≡ losing (keys_of v) old → HasExactly z new.holds values
  -- the same ones
  pub shared : (z : Sizes) (values : List Frags) (old new : View) → HasExactly z old.holds values
      → unmarked_view new ≡ unmarked_view old → HasExactly z new.holds values
  pub in_any_order : (z : Sizes) (hs : List Holding) (values others : List Frags) → HasExactly z hs values
      → SameItems values others → HasExactly z hs others
  pub both : (z : Sizes) (values more : List Frags) (old other new : View)
      → IsSeat z new → HasExactly z old.holds values → HasExactly z other.holds more → new ≡ joined_views old other
      → HasExactly z new.holds (values ++ more)
  -- and each is there
  pub has_first : (z : Sizes) (hs : List Holding) (v : Frags) (values : List Frags)
      → HasExactly z hs (v ∷ values) → HasValue hs v

-- How many holds there are of each class.
pub record ValuesAreCounted : Type 0 where
  pub unpinned : (z : Sizes) (hs : List Holding) (values : List Frags) → HasExactly z hs values → total pin_of hs ≡ 0
  pub of_class : (z : Sizes) (class : Class) (hs : List Holding) (values : List Frags) → HasExactly z hs values
      → holds_in z class hs ≡ buffers_for_all class values
  -- so many buffers are held where no other seat has holds
  pub small : (z : Sizes) (seat : View) (values : List Frags) → IsLoose seat → HasExactly z seat.holds values
      → (pool_end z seat).small ≡ buffers_for_all Small values
  pub large : (z : Sizes) (seat : View) (values : List Frags) → IsLoose seat → HasExactly z seat.holds values
      → (pool_end z seat).large ≡ buffers_for_all Large values
