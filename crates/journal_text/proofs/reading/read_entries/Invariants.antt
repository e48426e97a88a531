use Rattle.std.proofs.Common.{◌+◌, ◌≤◌, ◌∷◌, length, vec_len}
use Rattle.flake_base.specs.Histories.{histories}
use Rattle.journal_text.specs.Lines.{lines_of}
use Rattle.journal_text.specs.Text.{head_line}
use Rattle.journal_text.proofs.HasReads.{HasRead}
use Rattle.journal_text.proofs.reading.read_entries.Given as goal

-- the lines so far are those of the histories so far
abbrev pub invariant-loop-text : goal.invariant-loop-text
invariant-loop-text l = record {
  read : HasRead (head_line (vec_len l.fn.lists) ∷ lines_of l.fn.entries) (histories l.lists.items)
      (lines_of l.rest) l.line l.reached;
  room : l.line + length l.rest ≤ length l.fn.entries + 1;
}

abbrev pub decreases-loop-text : goal.decreases-loop-text
decreases-loop-text l = length l.rest
