use Rattle.std.proofs.Common.{◌≡◌, ℕ, ◌<◌, List, Some, length, slice_get}
use Rattle.std.specs.List.{flat_map}
use Rattle.flake_base.specs.declared.journal.Entry.{Entry}
use Rattle.flake_model.specs.Store.{Answer}
use Rattle.flake_model.specs.Command.{Command}
use Rattle.flake_model.specs.Reply.{reply_text}
use Rattle.flake_model.specs.Journal.{replies_from}
use Rattle.replay_check.specs.Inputs.{contents}
use Rattle.replay_check.specs.Places.{told}
use Rattle.replay_check.specs.Noted.{AreNoted}
use Rattle.replay_check.proofs.replies.texts_of.Given as goal

-- the texts of the first sessions
abbrev pub invariant-loop-number : goal.invariant-loop-number
invariant-loop-number l = record {
  count : length l.texts.items ≡ l.number;
  each : (found : List (Entry × Answer)) → AreNoted (told l.sessions) found l.slots → (k : ℕ) (commands : List Command)
      → k < l.number → slice_get (told l.sessions) k ≡ Some commands
      → slice_get (contents l.texts.items) k ≡ Some (flat_map reply_text (replies_from found k 0 commands));
}
