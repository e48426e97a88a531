-- What is said of a run at its end.
use Rattle.std.specs.Prelude.{ℕ, List, [], ◌∷◌, ◌++◌, codes}
use Rattle.std.specs.Fmt.{decimal}
use Rattle.flake_base.specs.declared.session.SessionEnd.{SessionEnd}
use Rattle.flake_model.specs.Said.{said_line, summary_from, wire_state}
use Rattle.pin_core.specs.declared.class.Held.{Held}
use Rattle.report_text.specs.declared.dump.DumpLine.{DumpLine}
use Rattle.report_text.specs.declared.dump.DumpLine.TheVariants.{Unasked, Untaken, Written}

-- how many small and large buffers are held at the end
abbrev pub held_line : Held → List ℕ
held_line held = said_line (codes "held " ++ decimal held.small ++ 32 ∷ decimal held.large)

-- what is said of a dump: nothing where none was asked for
abbrev pub dump_line : DumpLine → List ℕ
dump_line Unasked = []
dump_line Untaken = said_line (codes "dump none")
dump_line (Written bytes failed) =
    said_line (codes "dump bytes " ++ decimal bytes ++ codes " wire " ++ wire_state failed)

-- how each session ended, what is said of a dump, and what is held
abbrev pub summary_of : List SessionEnd → DumpLine → Held → List ℕ
summary_of ends dump held = summary_from 0 ends ++ dump_line dump ++ held_line held

-- how many replies there are, of how many bytes, and what is held
abbrev pub total_line : ℕ → ℕ → Held → List ℕ
total_line replies bytes held = said_line (codes "requests " ++ decimal replies ++ codes " bytes " ++ decimal bytes
    ++ codes " held " ++ decimal held.small ++ 32 ∷ decimal held.large)

-- the bytes that a report has room for at once
abbrev pub report_room : ℕ
report_room = 4096
