-- A seat that gets a value's holds for a while.
use Rattle.std.specs.Prelude.{◌≡◌, ℕ, ◌<◌, List, length}
use Rattle.pin_core.specs.Holding.{Holding}
use Rattle.pin_core.specs.declared.sizes.Sizes.{Sizes}
use Rattle.pinned_pool.specs.Moves.{holds_for, without_keys, gaining}
use Rattle.pinned_pool.specs.Named.{IsSeat}
use Rattle.pinned_pool.specs.declared.view.View.{View}
use Rattle.frag_value.specs.Changes.{IsAppended}
use Rattle.frag_value.specs.Values.{Frags, IsValue, HasValue, keys_of}

-- Without the value's holds the seat has the list that it had before they came.
pub record HoldsComeBack : Type 0 where
  pub again : (z : Sizes) (v : Frags) (from old new : View) → IsSeat z new → HasValue from.holds v
      → new ≡ gaining (holds_for (keys_of v) from.holds) old → without_keys (keys_of v) new.holds ≡ old.holds
  -- also where bytes were appended to the value in between
  pub longer : (z : Sizes) (v w : Frags) (bytes : List ℕ) (rest : List Holding) (old new : View) → IsValue z v
      → 0 < length bytes → without_keys (keys_of v) old.holds ≡ rest → IsAppended v bytes w old new
      → without_keys (keys_of w) new.holds ≡ rest
