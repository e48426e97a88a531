-- Why a replay stops.
use Rattle.std.specs.Prelude.{◌≡◌, ℕ, ◌<◌, ◌≤◌, List, Some, length, slice_get, ⊤}
use Rattle.flake_base.specs.declared.journal.Entry.{Entry}
use Rattle.flake_model.specs.Command.{Command}
use Rattle.replay_check.specs.InOrder.{IsInOrder, AreInOrder, IsFirstFault}
use Rattle.replay_check.specs.declared.error.AnswerError.{AnswerError}
use Rattle.replay_check.specs.declared.error.AnswerError.TheVariants.{BadJournal, Memory}

-- this place of a history is the first that isn't in order
pub record IsFirstIn (sessions : List (List Command)) (shards shard : ℕ) (history : List Entry) (place : ℕ) :
    Type 0 where
  pub within : place ≤ length history
  pub at_fault : IsInOrder sessions shards shard history place → ⊥
  pub before : (k : ℕ) → k < place → IsInOrder sessions shards shard history k

-- an error of a shard's history but for want of memory
abbrev pub IsFaultIn : List (List Command) → ℕ → ℕ → List Entry → AnswerError → Type 0
IsFaultIn sessions shards shard history (BadJournal other place) =
    (other ≡ shard) × IsFirstIn sessions shards shard history place
IsFaultIn sessions shards shard history Memory = ⊤

-- an error of a journal but for want of memory
abbrev pub IsFaultOf : List (List Command) → List (List Entry) → AnswerError → Type 0
IsFaultOf sessions journal (BadJournal shard place) = IsFirstFault sessions journal shard place
IsFaultOf sessions journal Memory = ⊤

-- each shard's history is in order
abbrev pub AllInOrder : List (List Command) → List (List Entry) → Type 0
AllInOrder sessions journal = (shard : ℕ) (history : List Entry) → slice_get journal shard ≡ Some history
    → AreInOrder sessions (length journal) shard history
