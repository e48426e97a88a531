-- What inputs ask for.
use Rattle.std.specs.Prelude.{◌≡◌, ℕ, List, Some, length, map, slice_get}
use Rattle.flake_base.specs.Roomy.{Roomy}
use Rattle.flake_base.specs.declared.session.End.{End}
use Rattle.flake_model.specs.Resp.{Words, Parses}
use Rattle.flake_model.specs.Command.{Command}
use Rattle.flake_model.specs.Input.{commands_in}
use Rattle.flake_model.specs.Journal.{Step, commands_of, session_steps, in_shard}

-- each list of bytes, without its room
abbrev pub contents : List (Roomy ℕ) → List (List ℕ)
contents texts = map (λ text. text.items) texts

-- the commands of an input, by the grammar of the whole
pub record AreCommands (bytes : List ℕ) (commands : List Command) : Type 0 where
  pub requests : List Words
  pub end : End
  pub parsed : Parses bytes requests end
  pub commands_are : commands ≡ commands_in requests end

-- each input has the commands of its session
pub record AreInputs (inputs : List (List ℕ)) (sessions : List (List Command)) : Type 0 where
  pub count : length sessions ≡ length inputs
  pub each : (session : ℕ) (bytes : List ℕ) → slice_get inputs session ≡ Some bytes
      → (commands : List Command) × (slice_get sessions session ≡ Some commands) × AreCommands bytes commands

-- a session's parts, in order
abbrev pub parts_of : List (List Command) → ℕ → List Step
parts_of sessions session = session_steps session 0 (commands_of sessions session)

-- those that belong to a shard
abbrev pub parts_in : List (List Command) → ℕ → ℕ → ℕ → List Step
parts_in sessions shards shard session = in_shard shards shard (parts_of sessions session)
