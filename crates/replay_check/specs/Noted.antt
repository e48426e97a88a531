-- The answers that were noted so far, one for each part of each session.
use Rattle.std.specs.Prelude.{◌≡◌, ℕ, suc, zero, List, [], ◌∷◌, Option, Some, None, length, map, slice_get}
use Rattle.std.specs.Global.{Vec}
use Rattle.std.specs.List.{flat_map}
use Rattle.flake_base.specs.declared.journal.Entry.{Entry}
use Rattle.flake_model.specs.Store.{Operation, Answer}
use Rattle.flake_model.specs.Command.{Command, parts}
use Rattle.flake_model.specs.Reply.{reply_text}
use Rattle.flake_model.specs.Journal.{answer_at, session_steps, replies_from}
use Rattle.byte_store.specs.Store.{answer_meant}
use Rattle.byte_store.specs.declared.store.ByteAnswer.{ByteAnswer}

-- the answer to a part, if it has an entry
abbrev pub slot_meant : Option ByteAnswer → Option Answer
slot_meant None = None
slot_meant (Some answer) = Some (answer_meant answer)

abbrev pub slots_meant : List (Option ByteAnswer) → List (Option Answer)
slots_meant slots = map slot_meant slots

-- the first answer stands
abbrev pub first_answer : Option Answer → Answer → Option Answer
first_answer None answer = Some answer
first_answer (Some first) answer = Some first

-- the answers with one more, at a place
abbrev pub noted : ℕ → Answer → List (Option Answer) → List (Option Answer)
noted place answer [] = []
noted zero answer (slot ∷ slots) = first_answer slot answer ∷ slots
noted (suc place) answer (slot ∷ slots) = slot ∷ noted place answer slots

-- the answers to a session's parts, by a list of answers at entries
abbrev pub answers_by : List (Entry × Answer) → ℕ → List Command → List (Option Answer)
answers_by answers session commands = map (λ step. answer_at step.0 answers) (session_steps session 0 commands)

-- each session has the answers to its parts
pub record AreNoted (sessions : List (List Command)) (answers : List (Entry × Answer))
    (slots : List (Vec (Option ByteAnswer))) : Type 0 where
  pub count : length slots ≡ length sessions
  pub each : (session : ℕ) (commands : List Command) (own : Vec (Option ByteAnswer))
      → slice_get sessions session ≡ Some commands → slice_get slots session ≡ Some own
      → slots_meant own.items ≡ answers_by answers session commands

-- the entry names a part of these commands
pub record HasPart (commands : List Command) (entry : Entry) (operation : Operation) : Type 0 where
  pub command : Command
  pub command_is : slice_get commands entry.call ≡ Some command
  pub part_is : slice_get (parts command) entry.part ≡ Some operation

-- the texts of the replies to all commands, by the answers at entries
pub record AreTexts (answers : List (Entry × Answer)) (sessions : List (List Command)) (texts : List (List ℕ)) :
    Type 0 where
  pub count : length texts ≡ length sessions
  pub each : (session : ℕ) (commands : List Command) → slice_get sessions session ≡ Some commands
      → slice_get texts session ≡ Some (flat_map reply_text (replies_from answers session 0 commands))
