-- What the lines of a text are read as.
use Rattle.std.specs.Prelude.{◌≡◌, ℕ, ◌-◌, ◌≤◌, max, List, [], ◌∷◌, ◌++◌, length, take, slice_index_or, ⊤}
use Rattle.flake_base.specs.declared.journal.Entry.{Entry}
use Rattle.journal_text.specs.declared.error.JournalError.{JournalError}
use Rattle.journal_text.specs.declared.error.JournalError.TheVariants.{BadLine, Memory}
use Rattle.journal_text.specs.Text.{journal_lines, FitsText}

-- the lines are those of this journal
pub record AreJournalLines (lines : List (List ℕ)) (journal : List (List Entry)) : Type 0 where
  pub fits : FitsText journal
  pub lines_are : lines ≡ journal_lines journal

-- some journal's text begins with these lines
pub record BeginsJournal (lines : List (List ℕ)) : Type 0 where
  pub journal : List (List Entry)
  pub more : List (List ℕ)
  pub fits : FitsText journal
  pub lines_are : journal_lines journal ≡ lines ++ more

-- The first line that no journal's text has there, counted from 1. Where there are no lines it is the first.
pub record IsBadJournalLine (lines : List (List ℕ)) (line : ℕ) : Type 0 where
  pub counted : 1 ≤ line
  pub there : line ≤ max 1 (length lines)
  pub good : BeginsJournal (take (line - 1) lines)
  pub bad : BeginsJournal (take (line - 1) lines ++ slice_index_or lines (line - 1) [] ∷ []) → ⊥

-- an error but for want of memory is that of a bad line
abbrev pub IsJournalFault : List (List ℕ) → JournalError → Type 0
IsJournalFault lines (BadLine line) = IsBadJournalLine lines line
IsJournalFault lines Memory = ⊤
