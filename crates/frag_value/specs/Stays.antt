-- A value that a seat has, while other values come and go.
use Rattle.std.specs.Prelude.{◌≡◌, ℕ, ◌+◌, ◌<◌, ◌≤◌, List, ◌++◌, length}
use Rattle.pin_core.specs.Holding.{Holding}
use Rattle.pin_core.specs.declared.sizes.Sizes.{Sizes}
use Rattle.pinned_pool.specs.Moves.{holds_for, joined_views, losing, gaining}
use Rattle.pinned_pool.specs.Named.{IsSeat}
use Rattle.pinned_pool.specs.declared.view.View.{View}
use Rattle.frag_value.specs.Values.{Frags, HasValue, value_bytes, keys_of, uses, unmarked_view}
use Rattle.frag_value.specs.Changes.{IsWritten, IsAppended, IsReleased}
use Rattle.frag_value.specs.Taken.{HandsOver}

-- the value is there, with the bytes that it had in the old holds
pub record Stays (v : Frags) (old new : List Holding) : Type 0 where
  pub has : HasValue new v
  pub bytes_are : value_bytes new v ≡ value_bytes old v

-- A value stays whatever is done with another one. Both are the seat's where their fragments together are.
pub record ValuesStay : Type 0 where
  -- the other one is written
  pub written : (z : Sizes) (v w : Frags) (bytes : List ℕ) (old new : View) → IsSeat z new → HasValue old.holds v
      → IsWritten bytes w old new → Stays v old.holds new.holds
  -- appended to
  pub appended : (z : Sizes) (v w x : Frags) (bytes : List ℕ) (old new : View)
      → IsSeat z old → IsSeat z new → 0 < length bytes → HasValue old.holds (v ++ w)
      → IsAppended w bytes x old new → Stays v old.holds new.holds
  -- released
  pub released : (z : Sizes) (v w : Frags) (n : ℕ) (old new : View) → IsSeat z old → HasValue old.holds (v ++ w)
      → IsReleased w n old new → Stays v old.holds new.holds
  -- taken over by a taker
  pub handed : (z : Sizes) (v w : Frags) (old new : View) → IsSeat z old → HasValue old.holds (v ++ w)
      → HandsOver w old new → Stays v old.holds new.holds
  -- goes to another seat
  pub lost : (z : Sizes) (v w : Frags) (old new : View) → IsSeat z old → HasValue old.holds (v ++ w)
      → new ≡ losing (keys_of w) old → Stays v old.holds new.holds
  -- the seat gets holds
  pub gained : (v : Frags) (more : List Holding) (old new : View) → HasValue old.holds v → new ≡ gaining more old
      → Stays v old.holds new.holds
  -- takes another seat in
  pub joined_in : (v : Frags) (old other new : View) → HasValue old.holds v → new ≡ joined_views old other
      → Stays v old.holds new.holds
  -- is taken in
  pub taken_in : (z : Sizes) (v : Frags) (old other new : View) → IsSeat z new → HasValue old.holds v
      → new ≡ joined_views other old → Stays v old.holds new.holds
  -- holds become shared, as a taker may do
  pub shared : (v : Frags) (old new : View) → HasValue old.holds v → unmarked_view new ≡ unmarked_view old
      → Stays v old.holds new.holds
  -- the value itself goes to another seat
  pub moved : (z : Sizes) (v : Frags) (old into new : View) → IsSeat z old → IsSeat z new → HasValue old.holds v
      → new ≡ gaining (holds_for (keys_of v) old.holds) into → Stays v old.holds new.holds
  -- and two values share no buffer
  pub apart : (z : Sizes) (v w : Frags) (seat : View) → IsSeat z seat → HasValue seat.holds (v ++ w)
      → (b : ℕ) → uses b v + uses b w ≤ 1
