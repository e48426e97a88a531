-- A shard's values under pinned holds, at one point of its history.
use Rattle.std.specs.Prelude.{◌≡◌, ℕ, ◌≤◌, List, length, map}
use Rattle.std.specs.FinMap as finite
use Rattle.pin_core.specs.Buffers.{buffers}
use Rattle.pin_core.specs.Holding.{Holding}
use Rattle.pin_core.specs.declared.sizes.Sizes.{Sizes}
use Rattle.pinned_pool.specs.Moves.{hold_key}
use Rattle.pinned_pool.specs.declared.view.View.{View}
use Rattle.flake_model.specs.Deed.{final_store}
use Rattle.order_book.specs.Closed.{IsShared}
use Rattle.order_book.specs.Pages.{ShardList, SessionList, session_seeing}
use Rattle.frag_value.specs.Pins.{KeyFrags, IsPinned, all_frags, pairs_shown, pin_keys, pinning}

-- The seat has a pinned hold more for each fragment, in order, paid with a credit, and is else as before; all
-- fragments lie in its holds.
pub record HasPinned (z : Sizes) (pairs : List KeyFrags) (old new : View) : Type 0 where
  pub pins : List Holding
  pub taken : new ≡ pinning pins old
  pub keys : map hold_key pins ≡ pin_keys (all_frags pairs)
  pub few : length (all_frags pairs) ≤ buffers z
  pub has : IsPinned new.holds (all_frags pairs)

-- The session saw the list of the shard with this number, which has so many deeds. The pairs are the entries of the
-- store that these deeds leave, in ascending byte order of their keys.
pub record IsImage (z : Sizes) (number place : ℕ) (pairs : List KeyFrags) (mine now : SessionList) (old new : View)
    : Type 0 where
  pub list : ShardList
  pub number_is : list.number ≡ number
  pub seen : now ≡ session_seeing mine list
  pub shared : IsShared list mine
  pub place_is : place ≡ length list.told
  pub pinned : HasPinned z pairs old new
  pub pairs_are : pairs_shown new.holds pairs ≡ finite.entries (final_store list.told)
