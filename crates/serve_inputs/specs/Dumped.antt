-- What a run says of the dump that it was asked for.
use Rattle.std.specs.Prelude.{◌≡◌, ℕ, ◌∷◌, Bool, true, false, if◌then◌else◌, List, [], Option, Some, length}
use Rattle.flake_base.specs.declared.journal.Entry.{Entry}
use Rattle.flake_model.specs.Command.{Command}
use Rattle.dump_model.specs.Dump.{dumped}
use Rattle.dump_model.specs.Seen.{IsDumpOf}
use Rattle.serve_inputs.specs.declared.dumped.DumpEnd.{DumpEnd}

-- how many entries of each shard's history it stands behind, whether it was taken, how long its text is, and whether a
-- put of it or its flush failed
pub record DumpTold : Type 0 where
  pub points : List ℕ
  pub taken : Bool
  pub bytes : ℕ
  pub failed : Bool

abbrev pub dump_told : DumpEnd → DumpTold
dump_told dump = record {
  points = dump.points.items;
  taken = dump.taken;
  bytes = dump.bytes;
  failed = dump.failed;
}

-- no dump was taken
abbrev pub no_dump : DumpTold
no_dump = record { points = []; taken = false; bytes = 0; failed = false }

-- what a dump that was taken puts on its wire, and whether that failed
abbrev pub dump_texts : List (List Command) → List (List Entry) → DumpTold → List (Bool × List ℕ)
dump_texts commands journal dump =
    if dump.taken then (dump.failed, dumped commands journal dump.points) ∷ [] else []

-- It stands before this call of the first session, or behind its last.
pub record IsTakenDump (commands : List (List Command)) (journal : List (List Entry)) (before : ℕ) (dump : DumpTold)
    : Type 0 where
  pub is : IsDumpOf commands journal 0 before dump.points (dumped commands journal dump.points)
  pub bytes_are : dump.bytes ≡ length (dumped commands journal dump.points)

-- It was asked for, where it was taken.
pub record IsDumpTold (asked : Option ℕ) (commands : List (List Command)) (journal : List (List Entry))
    (dump : DumpTold) : Type 0 where
  pub taken : dump.taken ≡ true → (before : ℕ) × (asked ≡ Some before) × IsTakenDump commands journal before dump
  pub untaken : dump.taken ≡ false → dump ≡ no_dump
