use Rattle.std.proofs.Common.{◌+◌, ◌≤◌, length}
use Rattle.journal_text.specs.Lines.{lines_of}
use Rattle.schedule_text.proofs.HasReads.{HasRead}
use Rattle.schedule_text.proofs.reading.read_schedule.Given as goal

-- the lines so far are those of the schedule so far
abbrev pub invariant-loop-words : goal.invariant-loop-words
invariant-loop-words l = record {
  read : HasRead l.sessions (lines_of l.text) l.schedule.items (lines_of l.rest) l.line;
  room : l.line + length l.rest ≤ length l.text;
}

abbrev pub decreases-loop-words : goal.decreases-loop-words
decreases-loop-words l = length l.rest
