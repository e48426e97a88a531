-- What a part does to a shard and to its taker.
use Rattle.std.specs.Prelude.{◌≡◌, ℕ, Bool, true, false, List, ◌++◌, Result, IfOk, IfErr, OnErr}
use Rattle.pin_core.specs.declared.class.Class.{Class}
use Rattle.pin_core.specs.declared.sizes.Sizes.{Sizes}
use Rattle.flake_model.specs.Store.{Store, Operation, get, set, append, del, exists, str_len, get_range}
use Rattle.flake_model.specs.Store.{key_of, change_by, answer, after, first_at, bytes_at}
use Rattle.flake_model.specs.Deed.{Places, places_at, places_after, kept_fragments, AreStored}
use Rattle.frag_value.specs.Changes.{found_none}
use Rattle.frag_value.specs.declared.error.PlaceError.{PlaceError}
use Rattle.shard_core.specs.Kept.{Agrees}
use Rattle.shard_core.specs.ShardMaps.{ShardState}
use Rattle.shard_core.specs.Answers.{answer_shown}
use Rattle.shard_core.specs.Demand.{part_row}
use Rattle.shard_core.specs.Paid.{IsPaid, NeedsBuffers, PaysToStore, WhyPartRefused}
use Rattle.shard_core.specs.Pieces.{answer_pieces, segs_at, size_stored}
use Rattle.shard_core.specs.declared.answer.PartAnswer.{PartAnswer}

-- The answer and the change of the operation, on this store and these places: what is stored has these addresses, and
-- the segments and the taker's pieces have grown by what belongs to it.
pub record IsDone (z : Sizes) (operation : Operation) (store : Store) (places : Places) (said : PartAnswer)
    (old new : ShardState) : Type 0 where
  pub stored : List ℕ
  pub says : said ≡ answer_shown (answer store operation)
  pub agrees : Agrees z new.shard.entries new.shard.seat.holds (after store operation)
      (places_after store places operation stored)
  pub stored_is : AreStored (change_by store operation)
      (kept_fragments (bytes_at store (key_of operation)) operation) (places_at places (key_of operation)) stored
  pub segs_are : new.stored ≡ old.stored ++ segs_at stored (size_stored operation (answer store operation))
  pub pieces : new.taken ≡ old.taken
      ++ answer_pieces operation (answer store operation) (places_at places (key_of operation))
      (first_at store operation)

-- the operation was done on each store and places that agreed
abbrev pub Does : Sizes → Operation → Result PartAnswer PlaceError → ShardState → ShardState → Type 0
Does z operation result old new =
    (store : Store) (places : Places) → Agrees z old.shard.entries old.shard.seat.holds store places
    → IfOk result (λ said. IsDone z operation store places said old new)

-- after a refusal they still agree
abbrev pub StandsAsBefore : Sizes → Result PartAnswer PlaceError → ShardState → ShardState → Type 0
StandsAsBefore z result old new =
    (store : Store) (places : Places) → Agrees z old.shard.entries old.shard.seat.holds store places
    → OnErr result (Agrees z new.shard.entries new.shard.seat.holds store places)

-- What a part does: the operation on what agreed, or nothing, for a reason. The seat that pays has at most claimed and
-- looked, and that only for a part that stores.
pub record DoesPart (z : Sizes) (operation : Operation) (result : Result PartAnswer PlaceError) (old new : ShardState)
    : Type 0 where
  pub done : Does z operation result old new
  pub same : StandsAsBefore z result old new
  pub untold : OnErr result (new.stored ≡ old.stored)
  pub untaken : OnErr result (new.taken ≡ old.taken)
  pub cause : IfErr result (λ e. WhyPartRefused z operation e old.payer new.payer)
  pub needs : IfErr result (λ e. NeedsBuffers z operation e old new)
  pub paid : IsPaid z (λ (class : Class). part_row class operation) (found_none result) old.payer new.payer
  pub pays : PaysToStore z operation result old new

-- the parts that may hand a value to the taker, and those that hand it a range
abbrev pub is_taking : Operation → Bool
is_taking (get key) = true
is_taking (set when asks key bytes) = asks
is_taking (append key bytes) = false
is_taking (del key) = false
is_taking (exists key) = false
is_taking (str_len key) = false
is_taking (get_range key first last) = false

abbrev pub is_ranged : Operation → Bool
is_ranged (get key) = false
is_ranged (set when asks key bytes) = false
is_ranged (append key bytes) = false
is_ranged (del key) = false
is_ranged (exists key) = false
is_ranged (str_len key) = false
is_ranged (get_range key first last) = true
