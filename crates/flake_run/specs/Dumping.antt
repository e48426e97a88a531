-- What a run says and answers of the dump that it was asked for.
use Rattle.std.specs.Prelude.{ℕ, ◌∷◌, ◌++◌, Bool, if◌then◌else◌, List, [], Option, Some, None, map}
use Rattle.flake_base.specs.declared.session.SessionEnd.{SessionEnd}
use Rattle.serve_inputs.specs.Dumped.{DumpTold}
use Rattle.report_text.specs.declared.dump.DumpLine.{DumpLine}
use Rattle.report_text.specs.declared.dump.DumpLine.TheVariants.{Unasked, Untaken, Written}

-- what is said of it
abbrev pub dump_line_of : Option ℕ → DumpTold → DumpLine
dump_line_of None dump = Unasked
dump_line_of (Some before) dump = if dump.taken then Written dump.bytes dump.failed else Untaken

-- whether a put of it failed; of one that wasn't taken nothing
abbrev pub dump_failed : DumpTold → List Bool
dump_failed dump = if dump.taken then dump.failed ∷ [] else []

-- whether a put failed, of each session, and of the dump behind them
abbrev pub puts_failed : List SessionEnd → DumpTold → List Bool
puts_failed ends dump = map (λ (end : SessionEnd). end.failed) ends ++ dump_failed dump

-- the same by what is said of it
abbrev pub line_failed : DumpLine → List Bool
line_failed Unasked = []
line_failed Untaken = []
line_failed (Written bytes failed) = failed ∷ []

abbrev pub lines_failed : List SessionEnd → DumpLine → List Bool
lines_failed ends line = map (λ (end : SessionEnd). end.failed) ends ++ line_failed line
