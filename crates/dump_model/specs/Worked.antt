-- Worked dumps: the requests of one session, the parts that its journal has, and what the wire of a dump is sent.
use Rattle.std.specs.Prelude.{ℕ, List, [], ◌∷◌, ◌++◌, codes, replicate}
use Rattle.flake_base.specs.declared.journal.Entry.{Entry}
use Rattle.flake_model.specs.Resp.{Words}

pub record WorkedDump : Type 0 where
  pub requests : List Words
  pub journal : List (List Entry)
  pub points : List ℕ
  pub sent : List ℕ

-- the only part of a call of the only session
abbrev pub entry_of_call : ℕ → Entry
entry_of_call call = record { session = 0; call = call; part = 0 }

abbrev pub three_words : List ℕ → List ℕ → List ℕ → Words
three_words name key value = name ∷ key ∷ value ∷ []

abbrev pub long_value : List ℕ
long_value = replicate 600 65

-- before call 2: a key that is set again later still has its first value
abbrev pub before_a_change : WorkedDump
before_a_change = record {
  requests =
      three_words (codes "SET") (codes "a") (codes "1")
      ∷ three_words (codes "SET") (codes "b") (codes "2")
      ∷ three_words (codes "SET") (codes "a") (codes "3") ∷ [];
  journal =
      [] ∷ [] ∷ [] ∷ [] ∷ (entry_of_call 0 ∷ entry_of_call 2 ∷ []) ∷ (entry_of_call 1 ∷ []) ∷ [] ∷ [] ∷ [];
  points = 0 ∷ 0 ∷ 0 ∷ 0 ∷ 1 ∷ 1 ∷ 0 ∷ 0 ∷ [];
  sent = codes "*3\r\n$3\r\nSET\r\n$1\r\na\r\n$1\r\n1\r\n*3\r\n$3\r\nSET\r\n$1\r\nb\r\n$1\r\n2\r\n";
}

-- before call 1: a long value that is deleted later
abbrev pub before_a_deletion : WorkedDump
before_a_deletion = record {
  requests =
      three_words (codes "SET") (codes "k") long_value
      ∷ (codes "PING" ∷ [])
      ∷ (codes "DEL" ∷ codes "k" ∷ []) ∷ [];
  journal = [] ∷ [] ∷ (entry_of_call 0 ∷ entry_of_call 2 ∷ []) ∷ [] ∷ [] ∷ [] ∷ [] ∷ [] ∷ [];
  points = 0 ∷ 0 ∷ 1 ∷ 0 ∷ 0 ∷ 0 ∷ 0 ∷ 0 ∷ [];
  sent = codes "*3\r\n$3\r\nSET\r\n$1\r\nk\r\n$600\r\n" ++ long_value ++ codes "\r\n";
}

abbrev pub dump_table : List WorkedDump
dump_table = before_a_change ∷ before_a_deletion ∷ []
