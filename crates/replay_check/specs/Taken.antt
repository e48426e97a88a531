-- An entry whose part is next.
use Rattle.std.specs.Prelude.{◌≡◌, ℕ, List, [], ◌∷◌, ◌++◌, Some, slice_get}
use Rattle.flake_base.specs.declared.journal.Entry.{Entry}
use Rattle.flake_model.specs.Store.{Operation}
use Rattle.flake_model.specs.Command.{Command}
use Rattle.replay_check.specs.Inputs.{parts_of}
use Rattle.replay_check.specs.InOrder.{IsNext, left_behind}
use Rattle.replay_check.specs.Places.{AreAt}

-- it is in order, its session stands behind its part, which is the one at this place
pub record IsEntryTaken (sessions : List (List Command)) (shards shard : ℕ) (earlier : List Entry) (cursors : List ℕ)
    (entry : Entry) (place : ℕ) : Type 0 where
  pub next : IsNext (left_behind sessions shards shard earlier entry.session) entry
  pub at : AreAt sessions shards shard (earlier ++ entry ∷ []) cursors
  pub operation : Operation
  pub step_is : slice_get (parts_of sessions entry.session) place ≡ Some (entry, operation)
