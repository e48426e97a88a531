-- Which entries of a history are in order, and the first place of a journal that isn't.
use Rattle.std.specs.Prelude.{◌≡◌, ℕ, ◌<◌, ◌≤◌, if◌then◌else◌, List, [], ◌∷◌, ◌++◌, Some, MatchOption}
use Rattle.std.specs.Prelude.{length, take, slice_get}
use Rattle.std.specs.List.{AllByRecursion}
use Rattle.flake_base.specs.declared.journal.Entry.{Entry}
use Rattle.flake_model.specs.Store.{Operation, IsWrite}
use Rattle.flake_model.specs.Command.{Command}
use Rattle.flake_model.specs.Journal.{Step, is_entry, of_session}
use Rattle.replay_check.specs.Inputs.{parts_in}

-- the parts behind that of an entry
abbrev pub behind : Entry → List Step → List Step
behind entry [] = []
behind entry (step ∷ steps) = if is_entry step.0 entry then steps else behind entry steps

-- the parts behind those of some entries, one after another: those behind the part of the last
abbrev pub steps_behind : List Step → List Entry → List Step
steps_behind steps [] = steps
steps_behind steps (entry ∷ entries) = steps_behind (behind entry steps) entries

-- parts that may have no entry
abbrev pub AreWrites : List Step → Type 0
AreWrites steps = AllByRecursion (λ step. IsWrite step.1) steps

-- the entry is that of one of these parts, and those before it are writes
pub record IsNext (steps : List Step) (entry : Entry) : Type 0 where
  pub between : List Step
  pub operation : Operation
  pub more : List Step
  pub steps_are : steps ≡ between ++ (entry, operation) ∷ more
  pub writes : AreWrites between

-- the parts of a session that are left behind its entries so far
abbrev pub left_behind : List (List Command) → ℕ → ℕ → List Entry → ℕ → List Step
left_behind sessions shards shard earlier session =
    steps_behind (parts_in sessions shards shard session) (of_session session earlier)

-- An entry is in order where it is that of one of its session's parts of the shard, behind that of the session's last
-- entry before it, and each part between the two is a write. A history's end is in order where each part of each
-- session behind its last entry is a write.
abbrev pub IsInOrder : List (List Command) → ℕ → ℕ → List Entry → ℕ → Type 0
IsInOrder sessions shards shard history place = MatchOption (slice_get history place)
    ((session : ℕ) → AreWrites (left_behind sessions shards shard history session))
    (λ entry. IsNext (left_behind sessions shards shard (take place history) entry.session) entry)

-- each place of a history is in order, its end too
abbrev pub AreInOrder : List (List Command) → ℕ → ℕ → List Entry → Type 0
AreInOrder sessions shards shard history =
    (place : ℕ) → place ≤ length history → IsInOrder sessions shards shard history place

-- the shards before this one are in order, and in its history so are the places before this one, which isn't
pub record IsFirstFault (sessions : List (List Command)) (journal : List (List Entry)) (shard place : ℕ) : Type 0 where
  pub history : List Entry
  pub is_there : slice_get journal shard ≡ Some history
  pub within : place ≤ length history
  pub at_fault : IsInOrder sessions (length journal) shard history place → ⊥
  pub places_before : (k : ℕ) → k < place → IsInOrder sessions (length journal) shard history k
  pub shards_before : (other : ℕ) (before : List Entry) → other < shard → slice_get journal other ≡ Some before
      → AreInOrder sessions (length journal) other before
