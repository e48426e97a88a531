-- The verdict on files.
use Rattle.std.specs.Prelude.{ℕ, List}
use Rattle.flake_base.specs.declared.journal.Entry.{Entry}
use Rattle.journal_text.specs.Lines.{lines_of}
use Rattle.journal_text.specs.Reading.{AreJournalLines}
use Rattle.replay_check.specs.Differs.{IsVerdict}
use Rattle.replay_check.specs.declared.verdict.Verdict.{Verdict}
use Rattle.check_files.specs.Files.{AreContents}

-- by the journal whose text the first file gave, of the inputs and replies that the others gave
pub record IsJudged (texts : List (List ℕ)) (verdict : Verdict) : Type 0 where
  pub text : List ℕ
  pub inputs : List (List ℕ)
  pub replies : List (List ℕ)
  pub contents : AreContents texts text inputs replies
  pub journal : List (List Entry)
  pub lines : AreJournalLines (lines_of text) journal
  pub verdict_is : IsVerdict inputs journal replies verdict
