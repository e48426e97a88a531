-- What contracts see of a shard's map and seat.
use Rattle.std.specs.Prelude.{◌≡◌, ℕ, List, [], map}
use Rattle.std.specs.Global.{Vec}
use Rattle.pinned_pool.specs.declared.view.View.{View}
use Rattle.flake_base.specs.declared.segment.Seg.{Seg}
use Rattle.frag_value.specs.Taken.{TakenPiece}
use Rattle.shard_core.specs.Kept.{Entries, IsPoor}
use Rattle.frag_value.specs.Values.{Frags}

pub record ShardMapView : Type 0 where
  pub entries : Entries
  pub seat : View

-- what stands before a part, or behind it: the shard, the seat that pays, the segments that were stored, and the pieces
-- that were taken
pub record ShardState : Type 0 where
  pub shard : ShardMapView
  pub payer : View
  pub stored : List Seg
  pub taken : List TakenPiece

-- a seat with one credit and nothing else
pub record IsBare (seat : View) : Type 0 where
  pub poor : IsPoor seat
  pub holds : seat.holds ≡ []

abbrev pub keys_on : Entries → List (Vec ℕ)
keys_on entries = map (λ (e : Vec ℕ × Frags). e.0) entries
