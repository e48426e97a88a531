-- The text of a schedule.
use Rattle.std.specs.Prelude.{ℕ, List, ◌++◌, codes, map}
use Rattle.std.specs.Fmt.{decimal}
use Rattle.journal_text.specs.Lines.{joined_lines}
use Rattle.schedule_text.specs.declared.line.Line.{Line}
use Rattle.schedule_text.specs.declared.line.Line.TheVariants.{Call, Gather, Reap}

-- the session that a line is for
abbrev pub line_session : Line → ℕ
line_session (Call session) = session
line_session (Gather session) = session
line_session (Reap session) = session

-- what is to be done, a blank, and the session
abbrev pub schedule_line : Line → List ℕ
schedule_line (Call session) = codes "call " ++ decimal session
schedule_line (Gather session) = codes "gather " ++ decimal session
schedule_line (Reap session) = codes "reap " ++ decimal session

abbrev pub schedule_text_of : List Line → List ℕ
schedule_text_of schedule = joined_lines (map schedule_line schedule)
