-- What parts and calls do to the list of their session and to the seat that pays for them.
use Rattle.std.specs.Prelude.{◌≡◌, ℕ, ◌<◌, ◌≤◌, ◌⊎◌, List, [], ◌∷◌, ◌++◌, Option, length, take}
use Rattle.flake_base.specs.declared.journal.Entry.{Entry}
use Rattle.pin_core.specs.declared.class.Class.{Class}
use Rattle.pin_core.specs.declared.sizes.Sizes.{Sizes}
use Rattle.pinned_pool.specs.Sought.{Sought}
use Rattle.pinned_pool.specs.declared.view.View.{View}
use Rattle.flake_model.specs.Store.{Operation}
use Rattle.flake_model.specs.Command.{Command, parts}
use Rattle.flake_model.specs.Reply.{reply_of, reply_text}
use Rattle.shard_core.specs.Demand.{part_row}
use Rattle.shard_core.specs.Outcomes.{PartOutcome, Outcomes, SessionDeeds, part_told, IsOutcome, AreOutcomes, call_told}
use Rattle.shard_core.specs.Outcomes.{answer_told, answers_told}
use Rattle.shard_core.specs.Outcomes.{missed_in, HasPutNothing, HavePutNothing, WouldPut}
use Rattle.shard_core.specs.CallDemand.{parts_row, call_pins}
use Rattle.shard_core.specs.Needed.{may_need, parts_needing, SoughtFor}

-- One part was run at an entry, with this outcome: what it adds to the session's list, and what the seat claimed.
pub record IsPartRun (z : Sizes) (shards : ℕ) (entry : Entry) (operation : Operation) (outcome : Option PartOutcome)
    (old new : SessionDeeds) (seat after : View) : Type 0 where
  pub is : IsOutcome operation outcome
  pub told : new ≡ old ++ part_told shards entry operation outcome
  pub sought : SoughtFor z (λ (class : Class). part_row class operation)
      (λ (class : Class). may_need class operation (answer_told outcome)) (missed_in (outcome ∷ [])) seat after
  -- one that puts nothing costs nothing
  pub free : HasPutNothing operation outcome → (after.claims ≡ seat.claims) × (after.looks ≡ seat.looks)
  pub missed : WouldPut operation outcome

-- the first parts of a call were run
pub record AreRunning (z : Sizes) (shards session call : ℕ) (operations : List Operation) (outcomes : Outcomes)
    (old new : SessionDeeds) (seat after : View) : Type 0 where
  pub are : AreOutcomes operations outcomes
  pub told : new ≡ old ++ call_told shards session call 0 operations outcomes
  pub sought : SoughtFor z (λ (class : Class). parts_row class (take (length outcomes) operations))
      (λ (class : Class). parts_needing class operations outcomes) (missed_in outcomes) seat after
  -- those that put nothing cost nothing
  pub free : HavePutNothing operations outcomes → (after.claims ≡ seat.claims) × (after.looks ≡ seat.looks)

-- A call was executed: its reply has this text, and takes so many pins.
pub record IsExecuted (z : Sizes) (threshold shards session call : ℕ) (command : Command) (outcomes : Outcomes)
    (text : List ℕ) (pins : ℕ) (old new : SessionDeeds) (seat after : View) : Type 0 where
  pub running : AreRunning z shards session call (parts command) outcomes old new seat after
  pub whole : length outcomes ≡ length (parts command)
  pub text_is : text ≡ reply_text (reply_of command (answers_told outcomes))
  pub pinned : call_pins threshold (parts command) outcomes ≤ pins

-- Memory was wanting in a call: some of its parts ran, and never the last. The part in which it was wanting may have
-- claimed buffers, and has given them back.
pub record IsCutShort (z : Sizes) (shards session call : ℕ) (command : Command) (outcomes : Outcomes)
    (old new : SessionDeeds) (seat after : View) : Type 0 where
  pub are : AreOutcomes (parts command) outcomes
  pub short : (length outcomes ≡ 0) ⊎ (length outcomes < length (parts command))
  pub told : new ≡ old ++ call_told shards session call 0 (parts command) outcomes
  pub sought : Sought z (λ (class : Class). parts_row class (parts command)) (missed_in outcomes) seat after
