-- What a journal answers to inputs.
use Rattle.std.specs.Prelude.{◌≡◌, ℕ, List, Some, length, map, slice_get, ⊤}
use Rattle.flake_base.specs.declared.journal.Entry.{Entry}
use Rattle.flake_model.specs.Command.{Command}
use Rattle.flake_model.specs.Journal.{wire_text, IsOrderly}
use Rattle.replay_check.specs.Inputs.{AreInputs}
use Rattle.replay_check.specs.InOrder.{IsFirstFault}
use Rattle.replay_check.specs.declared.error.AnswerError.{AnswerError}
use Rattle.replay_check.specs.declared.error.AnswerError.TheVariants.{BadJournal, Memory}

-- the journal has the parts of all commands in order
abbrev pub IsWholeJournal : List (List Command) → List (List Entry) → Type 0
IsWholeJournal sessions journal = IsOrderly sessions journal (map length sessions)

-- the journal is orderly for all commands of the inputs, and these are the texts of their replies
pub record AreAnswers (inputs : List (List ℕ)) (journal : List (List Entry)) (texts : List (List ℕ)) : Type 0 where
  pub sessions : List (List Command)
  pub inputs_are : AreInputs inputs sessions
  pub orderly : IsWholeJournal sessions journal
  pub count : length texts ≡ length inputs
  pub each : (session : ℕ) (commands : List Command) → slice_get sessions session ≡ Some commands
      → slice_get texts session ≡ Some (wire_text sessions journal session (length commands))

-- the journal isn't orderly for all commands of the inputs, and this place is the first that isn't in order
pub record IsBadJournal (inputs : List (List ℕ)) (journal : List (List Entry)) (shard place : ℕ) : Type 0 where
  pub sessions : List (List Command)
  pub inputs_are : AreInputs inputs sessions
  pub first : IsFirstFault sessions journal shard place
  pub not_orderly : IsWholeJournal sessions journal → ⊥

-- an error but for want of memory is that of a bad journal
abbrev pub IsRefusal : List (List ℕ) → List (List Entry) → AnswerError → Type 0
IsRefusal inputs journal (BadJournal shard place) = IsBadJournal inputs journal shard place
IsRefusal inputs journal Memory = ⊤
