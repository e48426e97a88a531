use Rattle.std.proofs.Common.{◌≡◌, ℕ, ◌++◌, List, length, map, drop}
use Rattle.std.specs.List.{flat_map}
use Rattle.flake_base.specs.declared.journal.Entry.{Entry}
use Rattle.flake_model.specs.Store.{Answer}
use Rattle.flake_model.specs.Command.{parts}
use Rattle.flake_model.specs.Reply.{reply_text}
use Rattle.flake_model.specs.Journal.{answer_at, session_steps, replies_from}
use Rattle.replay_check.specs.Noted.{slots_meant, answers_by}
use Rattle.replay_check.proofs.replies.session_text.Given as goal

-- the answers to the calls that are left, and the texts of those so far
abbrev pub invariant-loop-command : goal.invariant-loop-command
invariant-loop-command l = record {
  few : length l.rest ≡ length (flat_map parts (drop l.command-index l.commands));
  said : (found : List (Entry × Answer)) (session : ℕ) → slots_meant l.answers ≡ answers_by found session l.commands
      → (slots_meant l.rest ≡ map (λ step. answer_at step.0 found)
      (session_steps session l.command-index (drop l.command-index l.commands)))
      × (flat_map reply_text (replies_from found session 0 l.commands)
      ≡ l.text.items ++ flat_map reply_text
      (replies_from found session l.command-index (drop l.command-index l.commands)));
}
