-- What one session did, call by call: its run.
use Rattle.std.specs.Prelude.{◌≡◌, ℕ, ◌+◌, Bool, List, [], ◌∷◌, ◌++◌, Option, length, map, ⊤}
use Rattle.std.specs.List.{flat_map, zip}
use Rattle.view_sums.specs.Total.{total}
use Rattle.flake_base.specs.declared.session.SessionEnd.{SessionEnd}
use Rattle.flake_model.specs.Store.{Operation, Answer}
use Rattle.flake_model.specs.Command.{Command, parts}
use Rattle.flake_model.specs.Reply.{Reply, reply_of, reply_text}
use Rattle.flake_model.specs.Deed.{Deed}
use Rattle.flake_model.specs.Journal.{next_parts}
use Rattle.flake_model.specs.Session.{Session, IsBegun}
use Rattle.order_book.specs.Pages.{SessionList}
use Rattle.shard_core.specs.CallDemand.{call_pins}
use Rattle.shard_core.specs.Outcomes.{Outcomes, SessionDeeds, AreOutcomes, call_told, answers_told, missed_in}

-- what a session is told of its first calls, from a call on
abbrev pub calls_told : ℕ → ℕ → ℕ → List Command → List Outcomes → SessionDeeds
calls_told shards session call commands [] = []
calls_told shards session call [] (outcomes ∷ calls) = []
calls_told shards session call (command ∷ commands) (outcomes ∷ calls) =
    call_told shards session call 0 (parts command) outcomes ++ calls_told shards session (call + 1) commands calls

-- each of these calls has an outcome for each of its parts
abbrev pub AreCalls : List Command → List Outcomes → Type 0
AreCalls commands [] = ⊤
AreCalls [] (outcomes ∷ calls) = ⊥
AreCalls (command ∷ commands) (outcomes ∷ calls) =
    AreOutcomes (parts command) outcomes × (length outcomes ≡ length (parts command)) × AreCalls commands calls

-- the replies that their answers make
abbrev pub replies_told : List Command → List Outcomes → List Reply
replies_told commands [] = []
replies_told [] (outcomes ∷ calls) = []
replies_told (command ∷ commands) (outcomes ∷ calls) =
    reply_of command (answers_told outcomes) ∷ replies_told commands calls

-- each of their parts with its answer
abbrev pub parts_told : List Command → List Outcomes → List (Operation × Option Answer)
parts_told commands [] = []
parts_told [] (outcomes ∷ calls) = []
parts_told (command ∷ commands) (outcomes ∷ calls) =
    zip (parts command) (answers_told outcomes) ++ parts_told commands calls

-- how many holds their answers pin, with this threshold
abbrev pub calls_pins : ℕ → List Command → List Outcomes → ℕ
calls_pins threshold commands [] = 0
calls_pins threshold [] (outcomes ∷ calls) = 0
calls_pins threshold (command ∷ commands) (outcomes ∷ calls) =
    call_pins threshold (parts command) outcomes + calls_pins threshold commands calls

-- how many of them found no buffer
abbrev pub missed_by : List Outcomes → ℕ
missed_by calls = total missed_in calls

pub record Run : Type 0 where
  pub commands : List Command
  -- the outcomes of each call that has its reply
  pub calls : List Outcomes
  -- and those of the first parts of the call behind them
  pub behind : Outcomes
  -- the shards' lists that the session saw, each with its shard
  pub looks : List (ℕ × List Deed)
  pub end : SessionEnd

-- what the session was told
abbrev pub run_told : ℕ → ℕ → Run → SessionDeeds
run_told shards session run =
    let n = length run.calls in
    calls_told shards session 0 run.commands run.calls
    ++ call_told shards session n 0 (next_parts n run.commands) run.behind

-- the texts of its replies
abbrev pub run_texts : Run → List (List ℕ)
run_texts run = map reply_text (replies_told run.commands run.calls)

-- those of each session, and whether its wire failed
abbrev pub all_texts_told : List Run → List (Bool × List (List ℕ))
all_texts_told runs = map (λ (run : Run). (run.end.failed, run_texts run)) runs

-- what its wire is sent
abbrev pub run_text : Run → List ℕ
run_text run = flat_map reply_text (replies_told run.commands run.calls)

-- what each wire is sent, and whether it failed
abbrev pub texts_told : List Run → List (Bool × List ℕ)
texts_told runs = map (λ (run : Run). (run.end.failed, run_text run)) runs

-- The outcomes are those of the commands. Of the call behind the last reply some parts ran only where memory was
-- wanting, and then not the last.
pub record IsRun (run : Run) : Type 0 where
  pub replies_are : run.end.replies ≡ length run.calls
  pub calls_are : AreCalls run.commands run.calls
  pub behind_are : AreOutcomes (next_parts (length run.calls) run.commands) run.behind
  pub begun_is : IsBegun run.end.end (length run.behind) (length (next_parts (length run.calls) run.commands))

-- the session that ran so, with what its source gave, and whether it gave none at last
abbrev pub session_of : List ℕ → Bool → Run → Session
session_of given ended run = record {
  given = given;
  ended = ended;
  commands = run.commands;
  end = run.end;
  begun = length run.behind;
}

-- its list in the book
abbrev pub list_of : ℕ → ℕ → Run → SessionList
list_of shards session run = record {
  number = session;
  told = run_told shards session run;
  looks = run.looks;
}

-- the lists of all sessions, from a number on
abbrev pub lists_told : ℕ → ℕ → List Run → List SessionList
lists_told shards session [] = []
lists_told shards session (run ∷ runs) = list_of shards session run ∷ lists_told shards (session + 1) runs
