-- What the order of a history needs of each part.
use Rattle.std.specs.Prelude.{◌≡◌, ℕ, ◌+◌, ◌==◌, Bool, not, ◌||◌, List, Some, length, map, drop, slice_get}
use Rattle.std.specs.List.{list_all}
use Rattle.flake_base.specs.declared.journal.Entry.{Entry}
use Rattle.flake_model.specs.Store.{Operation, key_of}
use Rattle.flake_model.specs.Command.{Command}
use Rattle.flake_model.specs.Journal.{Step, shard_of, session_steps, in_shard}
use Rattle.replay_check.specs.declared.place.Place.{Place}
use Rattle.replay_check.specs.declared.session.Session.{Session}
use Rattle.replay_check.specs.Inputs.{parts_of}
use Rattle.replay_check.specs.Writes.{writes}
use Rattle.replay_check.specs.InOrder.{behind, IsNext, left_behind}

abbrev pub step_place : ℕ → Step → Place
step_place shards step =
    record { entry = step.0; shard = shard_of shards (key_of step.1); is_write = writes step.1 }

-- a place that isn't in a shard, or whose part is a write
abbrev pub is_due : ℕ → Place → Bool
is_due shard place = not (place.shard == shard) || place.is_write

abbrev pub all_due_from : ℕ → ℕ → List Place → Bool
all_due_from at shard places = list_all (is_due shard) (drop at places)

-- the part at this place of a session is that of the entry, which is next of the shard's parts from a place on
pub record IsFound (shards shard : ℕ) (steps : List Step) (at found : ℕ) (entry : Entry) : Type 0 where
  pub next : IsNext (in_shard shards shard (drop at steps)) entry
  pub left : in_shard shards shard (drop (found + 1) steps) ≡ behind entry (in_shard shards shard (drop at steps))
  pub operation : Operation
  pub step_is : slice_get steps found ≡ Some (entry, operation)

-- the commands of each session
abbrev pub told : List Session → List (List Command)
told sessions = map (λ session. session.commands.items) sessions

-- the places of each session are those of its parts
abbrev pub ArePlaced : ℕ → List Session → Type 0
ArePlaced shards sessions = (number : ℕ) (session : Session) → slice_get sessions number ≡ Some session
    → session.places.items ≡ map (step_place shards) (session_steps number 0 session.commands.items)

-- where each session stands in its parts: behind those of the entries so far
pub record AreAt (sessions : List (List Command)) (shards shard : ℕ) (earlier : List Entry) (cursors : List ℕ) :
    Type 0 where
  pub count : length cursors ≡ length sessions
  pub each : (session at : ℕ) → slice_get cursors session ≡ Some at
      → in_shard shards shard (drop at (parts_of sessions session)) ≡ left_behind sessions shards shard earlier session
