-- The replies of a served run, one by one.
use Rattle.std.specs.Prelude.{ℕ, ◌+◌, Bool, List, [], ◌∷◌, map, take}
use Rattle.flake_base.specs.declared.journal.Entry.{Entry}
use Rattle.flake_model.specs.Command.{Command}
use Rattle.flake_model.specs.Journal.{answers_of, replies_from, commands_of}
use Rattle.flake_model.specs.Reply.{reply_text}
use Rattle.flake_model.specs.Run.{all_commands}
use Rattle.flake_model.specs.Session.{Session}

-- the texts of a session's first replies, in call order
abbrev pub reply_texts : List (List Command) → List (List Entry) → ℕ → ℕ → List (List ℕ)
reply_texts sessions journal session served =
    let commands = take served (commands_of sessions session) in
    map reply_text (replies_from (answers_of sessions journal) session 0 commands)

-- those of each session, from one on, and whether its wire failed
abbrev pub all_replies_from : List (List Command) → List (List Entry) → ℕ → List Session → List (Bool × List (List ℕ))
all_replies_from commands journal number [] = []
all_replies_from commands journal number (session ∷ sessions) =
    (session.end.failed, reply_texts commands journal number session.end.replies)
    ∷ all_replies_from commands journal (number + 1) sessions

abbrev pub all_replies : List Session → List (List Entry) → List (Bool × List (List ℕ))
all_replies sessions journal = all_replies_from (all_commands sessions) journal 0 sessions
