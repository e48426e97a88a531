-- The commands that requests are meant to be.
use Rattle.std.specs.Prelude.{ℕ, false, List, [], ◌∷◌, map}
use Rattle.flake_model.specs.Command.{Command, get, mget, set, append, del}
use Rattle.flake_model.specs.Store.{always}
use Rattle.request_gen.specs.Requests.{generated_requests}
use Rattle.request_gen.specs.Words.{key_text, next_number, value_of}
use Rattle.request_gen.specs.declared.request.Key.TheVariants.{Shared, Own}
use Rattle.request_gen.specs.declared.request.DrawnRequest.{DrawnRequest}
use Rattle.request_gen.specs.declared.request.DrawnRequest.TheVariants.{Get, GetFour, Set, Append, Del}

abbrev pub command_for : ℕ → DrawnRequest → Command
command_for session (Get key) = get (key_text session key)
command_for session (GetFour n) = mget (key_text session (Shared n) ∷ key_text session (Own n)
    ∷ key_text session (Shared (next_number n)) ∷ key_text session (Own (next_number n)) ∷ [])
command_for session (Set key len) = set always false (key_text session key) (value_of session key len)
command_for session (Append n) = append (key_text session (Own n)) (value_of session (Own n) 100)
command_for session (Del n) = del (key_text session (Own n) ∷ [])

-- the commands of a session's first requests
abbrev pub generated_commands : ℕ → ℕ → ℕ → List Command
generated_commands number session count = map (command_for session) (generated_requests number session count)
