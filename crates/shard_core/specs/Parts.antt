-- What a part hands up: its answer, the pieces of the value that it answered, and the segments that it stored.
use Rattle.std.specs.Prelude.{◌≡◌, ℕ, ◌+◌, ◌*◌, ◌<◌, ◌≤◌, List, [], ◌∷◌, ◌++◌, Option, Some, None, length, ⊤}
use Rattle.std.specs.Prelude.{Result, IfOk, OnErr}
use Rattle.view_sums.specs.Total.{Each}
use Rattle.flake_base.specs.declared.fault.Memory.{Memory}
use Rattle.flake_base.specs.declared.journal.Entry.{Entry}
use Rattle.flake_base.specs.declared.segment.Seg.{Seg}
use Rattle.flake_model.specs.Store.{Operation, Answer, value, answer_on, change_on, first_on, bytes_put}
use Rattle.flake_model.specs.Fragments.{fragment_limit}
use Rattle.pin_core.specs.Buffers.{buffers}
use Rattle.pin_core.specs.declared.class.Class.{Class}
use Rattle.pin_core.specs.declared.sizes.Sizes.{Sizes}
use Rattle.pinned_pool.specs.Addresses.{address_of}
use Rattle.pinned_pool.specs.Classes.{class_at}
use Rattle.pinned_pool.specs.Sought.{Sought}
use Rattle.pinned_pool.specs.declared.pool.NoBuffer.{NoBuffer}
use Rattle.pinned_pool.specs.declared.view.View.{View}
use Rattle.frag_value.specs.Fragments.{class_for}
use Rattle.frag_value.specs.Taken.{TakenPiece}
use Rattle.order_book.specs.Pages.{SessionList}
use Rattle.shard_core.specs.Answers.{answer_shown}
use Rattle.shard_core.specs.Demand.{part_row}
use Rattle.shard_core.specs.Paid.{HasNone, LacksBuffers}
use Rattle.shard_core.specs.Pieces.{answer_pieces, segs_at, size_stored}
use Rattle.shard_core.specs.declared.answer.PartAnswer.{PartAnswer}
use Rattle.shard_core.specs.declared.answer.PartAnswer.TheVariants as say
use Rattle.shard_core.specs.Calls.{IsPartRun}
use Rattle.shard_core.specs.Outcomes.{PartOutcome, Outcomes}

-- what the taker has more: the bytes that were answered, at the addresses where they were found
abbrev pub pieces_told : Operation → Option PartOutcome → List TakenPiece
pieces_told operation None = []
pieces_told operation (Some done) = answer_pieces operation done.answer done.found done.first

-- the fragments of the value that was stored
abbrev pub segs_told : Operation → Option PartOutcome → List Seg
segs_told operation None = []
segs_told operation (Some done) = segs_at done.stored (size_stored operation done.answer)

-- the stored fragments of a call's parts, in order
abbrev pub call_segs : List Operation → Outcomes → List Seg
call_segs operations [] = []
call_segs [] (outcome ∷ outcomes) = []
call_segs (operation ∷ operations) (outcome ∷ outcomes) =
    segs_told operation outcome ++ call_segs operations outcomes

-- The answer that the caller gets: where no buffer was found, each of the class was found held, and on what its key had
-- the part stores bytes that need more of them than were claimed.
abbrev pub AnswersPart : Sizes → Operation → Option PartOutcome → PartAnswer → View → View → Type 0
AnswersPart z operation None said seat after =
    (none : NoBuffer) × (said ≡ say.NoBuffer none) × HasNone z operation none seat after
    × ((had : Option (List ℕ)) × LacksBuffers z had operation none seat after)
AnswersPart z operation (Some done) said seat after = said ≡ answer_shown done.answer

-- all bytes that were answered, if there are any, lie in the fragments that were found
abbrev pub Reach : Answer → ℕ → List ℕ → Type 0
Reach (value bytes) first found = 0 < length bytes → first + length bytes ≤ fragment_limit * length found
Reach answer first found = ⊤

abbrev pub Reaches : Option PartOutcome → Type 0
Reaches None = ⊤
Reaches (Some done) = Reach done.answer done.first done.found

-- the answer, and what goes with it, are the operation's on what its key had
pub record IsAnswered (operation : Operation) (done : PartOutcome) : Type 0 where
  pub had : Option (List ℕ)
  pub answer_is : done.answer ≡ answer_on had operation
  pub first_is : done.first ≡ first_on had operation
  pub stored_is : bytes_put (change_on had operation) ≡ None → done.stored ≡ []

abbrev pub Answered : Operation → Option PartOutcome → Type 0
Answered operation None = ⊤
Answered operation (Some done) = IsAnswered operation done

-- the segment is a whole fragment in a buffer of its class
pub record IsInBuffer (z : Sizes) (seg : Seg) : Type 0 where
  pub buffer : ℕ
  pub near : buffer < buffers z
  pub address_is : seg.address ≡ address_of z buffer
  pub class_is : class_at z buffer ≡ class_for seg.len

-- what stands before a part, or behind it: the session's list, the seat that pays, the segments that were stored, and
-- the pieces that were taken
pub record PartState : Type 0 where
  pub list : SessionList
  pub seat : View
  pub stored : List Seg
  pub taken : List TakenPiece

-- A part was run at an entry: its outcome is what the session's list, the answer, the taker and the stored segments
-- show.
pub record PartShows (z : Sizes) (shards : ℕ) (entry : Entry) (operation : Operation) (said : PartAnswer)
    (old new : PartState) : Type 0 where
  pub outcome : Option PartOutcome
  pub run : IsPartRun z shards entry operation outcome old.list.told new.list.told old.seat new.seat
  pub number : new.list.number ≡ old.list.number
  pub looks : new.list.looks ≡ old.list.looks
  pub says : AnswersPart z operation outcome said old.seat new.seat
  pub pieces : new.taken ≡ old.taken ++ pieces_told operation outcome
  pub reaches : Reaches outcome
  pub answered : Answered operation outcome
  pub segs_are : new.stored ≡ old.stored ++ segs_told operation outcome
  pub in_buffers : Each (IsInBuffer z) (segs_told operation outcome)

-- Memory was wanting: nothing was entered, taken or stored. Buffers may have been claimed, and were given back.
pub record IsUntold (z : Sizes) (operation : Operation) (old new : PartState) : Type 0 where
  pub list : new.list ≡ old.list
  pub taken_is : new.taken ≡ old.taken
  pub segs_are : new.stored ≡ old.stored
  pub sought : Sought z (λ (class : Class). part_row class operation) 0 old.seat new.seat

-- what no part changes of the seat that pays for it
pub record KeepsSeat (old new : View) : Type 0 where
  pub holds : new.holds ≡ old.holds
  pub credits : new.credits ≡ old.credits
  pub returns : new.returns ≡ old.returns

-- A part was run at an entry, or memory was wanting, and the seat that pays has kept what no part changes.
pub record PartEnds (z : Sizes) (shards : ℕ) (entry : Entry) (operation : Operation)
    (result : Result PartAnswer Memory) (old new : PartState) : Type 0 where
  pub told : IfOk result (λ said. PartShows z shards entry operation said old new)
  pub untold : OnErr result (IsUntold z operation old new)
  pub seat : KeepsSeat old.seat new.seat
