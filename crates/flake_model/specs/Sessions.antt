-- Worked sessions, one for each way to end but an input that is too long: what each was given and took, and how far it
-- came.
use Rattle.std.specs.Prelude.{ℕ, Bool, true, false, List, [], ◌∷◌, codes}
use Rattle.flake_base.specs.declared.reply.ErrorKind.TheVariants.{ProtocolInline}
use Rattle.flake_base.specs.declared.session.End.{End}
use Rattle.flake_base.specs.declared.session.End.TheVariants.{Clean, Protocol, Truncated, ReadFault, Memory, Left}
use Rattle.flake_model.specs.Store.{always}
use Rattle.flake_model.specs.Command.{Command, ping, get, set, mget, fault}
use Rattle.flake_model.specs.Session.{Session}

abbrev pub session : List ℕ → Bool → List Command → End → ℕ → ℕ → ℕ → Session
session given ended commands end taken replies begun = record {
  given = given;
  ended = ended;
  commands = commands;
  end = record { end = end; taken = taken; replies = replies; failed = false };
  begun = begun;
}

-- SET a 1, GET a
abbrev pub set_and_get : List ℕ
set_and_get = codes "*3\r\n$3\r\nSET\r\n$1\r\na\r\n$1\r\n1\r\n*2\r\n$3\r\nGET\r\n$1\r\na\r\n"

abbrev pub set_get : List Command
set_get = set always false (codes "a") (codes "1") ∷ get (codes "a") ∷ []

-- PING, and the front of a request
abbrev pub ping_and_front : List ℕ
ping_and_front = codes "*1\r\n$4\r\nPING\r\n*2\r\n$3\r\nGE"

-- MGET a b
abbrev pub get_two : List ℕ
get_two = codes "*3\r\n$4\r\nMGET\r\n$1\r\na\r\n$1\r\nb\r\n"

abbrev pub worked_sessions : List Session
worked_sessions =
    session set_and_get true set_get Clean 47 2 0
    ∷ session ping_and_front true (ping ∷ []) (Truncated 14) 24 1 0
    -- an error is answered, whatever is behind it
    ∷ session (codes "PING\r\n") false (fault ProtocolInline ∷ []) (Protocol 4 0) 1 1 0
    -- all that was given is taken, the front of a request too
    ∷ session ping_and_front false (ping ∷ []) ReadFault 24 1 0
    -- the first part of a call was run, and not its last
    ∷ session get_two true (mget (codes "a" ∷ codes "b" ∷ []) ∷ []) Memory 28 0 1
    -- an error that isn't answered yet
    ∷ session (codes "PING\r\n") false (fault ProtocolInline ∷ []) Memory 6 0 0
    ∷ session set_and_get false set_get Left 47 1 0
    ∷ []
