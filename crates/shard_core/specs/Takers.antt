-- What a part may ask of a taker, and what it keeps of it.
use Rattle.std.specs.Prelude.{◌≡◌, ℕ, ◌+◌, ◌<◌, ◌≤◌, Bool, true, false, List, Option, None, length}
use Rattle.frag_value.specs.Taken.{Begun, TakenPiece}
use Rattle.frag_value.specs.declared.taker.Taker.{Ghosts}

-- a taker: the pieces that it has, the value that it has begun, what no call changes, and how many values and ranges of
-- values fit more
pub record TakerView (B : Type 0) : Type 0 where
  pub taken : List TakenPiece
  pub begun : Option Begun
  pub base : B
  pub room : ℕ
  pub range_room : ℕ

-- the taker has begun nothing, and has room for a value or a range of one, where it may be handed one
pub record MayTake {B : Type 0} (value range : Bool) (taker : TakerView B) : Type 0 where
  pub none : taker.begun ≡ None
  pub room : value ≡ true → 0 < taker.room
  pub range_room : range ≡ true → 0 < taker.range_room

-- Nothing is begun, the base stays, and what was taken, a value or a range of one, is all that took room.
pub record KeepsTaker {B : Type 0} (range : Bool) (old new : TakerView B) : Type 0 where
  pub none : new.begun ≡ None
  pub base : new.base ≡ old.base
  pub room : range ≡ false → old.room + length old.taken ≤ new.room + length new.taken
  pub range_room : range ≡ true → old.range_room + length old.taken ≤ new.range_room + length new.taken

-- a taker, by the ghost members of its type
module _ {T N B : Type 0} (g : Ghosts T N B) where
  abbrev pub taking : T → TakerView B
  taking taker =
      record {
        taken = g.taken taker;
        begun = g.begun taker;
        base = g.base taker;
        room = g.room taker;
        range_room = g.range_room taker;
      }
