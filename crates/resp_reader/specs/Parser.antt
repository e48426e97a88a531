-- Elements behind one another, as far as they came.
use Rattle.std.specs.Prelude.{◌≡◌, ℕ, ◌+◌, ◌≤◌, ◌⊎◌, List, ◌∷◌, ◌++◌, length, ⊤}
use Rattle.resp_reader.specs.declared.begun.Stop.{Stop}
use Rattle.resp_reader.specs.declared.begun.Stop.TheVariants.{Fault, Memory}
use Rattle.resp_reader.specs.declared.begun.Mark.{Mark}
use Rattle.resp_reader.specs.declared.begun.Begun.{Begun}
use Rattle.resp_reader.specs.declared.parser.Parser.{Parser}
use Rattle.flake_model.specs.Resp.{Words, Element, AllElements, stream, requests_of, IsFaulty, judged_bytes}
use Rattle.resp_reader.specs.Begun.{IsBegunSound, IsUnfinished, begun_front, Grows}
use Rattle.resp_reader.specs.WordRoom.{GrowsFrom}

-- between two calls
pub record IsBetweenCalls (parser : Parser) : Type 0 where
  pub sound : IsBegunSound parser.begun
  pub awaits : IsUnfinished parser.begun.state
  pub taken_is : parser.taken ≡ parser.place + length (begun_front parser.begun)
  pub judged : parser.taken ≤ judged_bytes

-- whole elements were taken off the bytes, up to the rest
pub record TakesTo (old new : Parser) (bytes rest : List ℕ) : Type 0 where
  pub elements : List Element
  pub allowed : AllElements elements
  pub bytes_are : begun_front old.begun ++ bytes ≡ stream elements ++ (begun_front new.begun ++ rest)
  pub ready_is : new.ready.items ≡ old.ready.items ++ requests_of elements
  pub place_is : new.place ≡ old.place + length (stream elements)

-- what was there is still in front: the element that had begun, or it is the first of the new requests
abbrev pub CanGoBack : Parser → Parser → Type 0
CanGoBack old new =
    ((new.ready.items ≡ old.ready.items) × Grows old.begun new.begun)
    ⊎ ((first : Words) × (others : List Words) × (new.ready.items ≡ old.ready.items ++ first ∷ others)
    × ((word : List ℕ) → GrowsFrom old.begun.room.words old.begun.room.word first word))

-- the mark of an element as far as it came
pub record IsMark (mark : Mark) (begun : Begun) : Type 0 where
  pub state : mark.state ≡ begun.state
  pub words : mark.words ≡ length begun.room.words
  pub len : mark.len ≡ length begun.room.word

-- all that contracts see of it is as it was
pub record IsBack (old new : Parser) : Type 0 where
  pub ready : new.ready.items ≡ old.ready.items
  pub state : new.begun.state ≡ old.begun.state
  pub words : new.begun.room.words ≡ old.begun.room.words
  pub word : new.begun.room.word ≡ old.begun.room.word
  pub place : new.place ≡ old.place
  pub taken : new.taken ≡ old.taken

-- the bytes have an error at this place, behind whole requests
pub record HasFault (old new : Parser) (bytes : List ℕ) (kind place : ℕ) : Type 0 where
  pub requests : List Words
  pub faulty : IsFaulty (begun_front old.begun ++ bytes) requests kind (length (begun_front old.begun) + place)
  pub ready_is : new.ready.items ≡ old.ready.items ++ requests

abbrev pub StopsAt : Parser → Parser → List ℕ → Stop → Type 0
StopsAt old new bytes (Fault kind place) = HasFault old new bytes kind place
StopsAt old new bytes Memory = ⊤
