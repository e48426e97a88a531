-- One history of all parts, which a store of one thread could have run.
use Rattle.std.specs.Prelude.{◌≡◌, ℕ, List, Some}
use Rattle.std.specs.List.{AllByRecursion}
use Rattle.std.specs.FinMap as map
use Rattle.flake_base.specs.declared.journal.Entry.{Entry}
use Rattle.flake_model.specs.Command.{Command}
use Rattle.flake_model.specs.Journal.{Step, operation_at, answers_from, answers_of, answer_at, of_session}
use Rattle.flake_model.specs.OneThread.{entries_of, IsSharded}
use Rattle.flake_model.specs.Order.{EntriesRise}

-- All parts that have an entry, in one order: each shard's history is what belongs there, each session's parts keep
-- their order, and the answer that the journal gives at each of them is that of a store of one thread at that point.
pub record HasOneHistory (sessions : List (List Command)) (journal : List (List Entry)) : Type 0 where
  pub steps : List Step
  pub stand : AllByRecursion (λ (step : Step). operation_at sessions step.0 ≡ Some step.1) steps
  pub sharded : IsSharded steps journal
  pub in_order : (session : ℕ) → EntriesRise (of_session session (entries_of steps))
  pub answers : AllByRecursion (λ found. answer_at found.0 (answers_of sessions journal) ≡ Some found.1)
      (answers_from map.empty steps)
