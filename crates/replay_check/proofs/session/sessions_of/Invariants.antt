use Rattle.std.proofs.Common.{◌≡◌, ℕ, ◌<◌, List, Some, length, slice_get}
use Rattle.flake_model.specs.Command.{Command}
use Rattle.replay_check.specs.Inputs.{contents, AreCommands}
use Rattle.replay_check.specs.Places.{told, ArePlaced}
use Rattle.replay_check.proofs.session.sessions_of.Given as goal

-- the first sessions
abbrev pub invariant-loop-number : goal.invariant-loop-number
invariant-loop-number l = record {
  count : length l.sessions.items ≡ l.number;
  inputs : (k : ℕ) (bytes : List ℕ) → k < l.number → slice_get (contents l.inputs.items) k ≡ Some bytes
      → (commands : List Command) × (slice_get (told l.sessions.items) k ≡ Some commands) × AreCommands bytes commands;
  placed : ArePlaced l.shards l.sessions.items;
}
