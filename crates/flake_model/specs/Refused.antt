-- Outcomes that no run has.
use Rattle.std.specs.Prelude.{ℕ, false, List, [], ◌∷◌, codes}
use Rattle.flake_base.specs.declared.journal.Entry.{Entry}
use Rattle.flake_base.specs.declared.session.End.{End}
use Rattle.flake_base.specs.declared.session.SessionEnd.{SessionEnd}
use Rattle.flake_model.specs.Store.{Operation, set, append, always, Answer, done, length_is}
use Rattle.flake_model.specs.Deed.{Deed, deed_at}

abbrev pub refused_end : End → ℕ → ℕ → SessionEnd
refused_end end taken replies = record { end = end; taken = taken; replies = replies; failed = false }

-- eight shards that did nothing
abbrev pub nothing_done : List (List Entry)
nothing_done = [] ∷ [] ∷ [] ∷ [] ∷ [] ∷ [] ∷ [] ∷ [] ∷ []

-- SET a 1
abbrev pub one_set : List ℕ
one_set = codes "*3\r\n$3\r\nSET\r\n$1\r\na\r\n$1\r\n1\r\n"

-- a length with a leading zero
abbrev pub bad_length : List ℕ
bad_length = codes "*1\r\n$01\r\n"

-- PING, three times
abbrev pub three_pings : List ℕ
three_pings = codes "*1\r\n$4\r\nPING\r\n*1\r\n$4\r\nPING\r\n*1\r\n$4\r\nPING\r\n"

-- by the session 0 in its call of this number
abbrev pub one_deed : ℕ → Operation → Answer → List ℕ → Deed
one_deed call operation answer stored =
    deed_at (record { session = 0; call = call; part = 0 }) operation answer [] 0 stored

-- SET a 1, and an APPEND of no bytes that puts the value elsewhere
abbrev pub moving_append : List Deed
moving_append =
    one_deed 0 (set always false (codes "a") (codes "1")) done (0 ∷ [])
    ∷ one_deed 1 (append (codes "a") []) (length_is 1) (512 ∷ [])
    ∷ []
