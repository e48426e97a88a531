-- Why files give no verdict.
use Rattle.std.specs.Prelude.{◌≡◌, ◌≢◌, ℕ, ◌<◌, Bool, true, List, Some, length, slice_get, IsSomeAnd, ⊤}
use Rattle.flake_base.specs.Causes.{Rose}
use Rattle.journal_text.specs.Lines.{lines_of}
use Rattle.journal_text.specs.Reading.{IsBadJournalLine}
use Rattle.journal_text.specs.declared.error.JournalError.{JournalError}
use Rattle.journal_text.specs.declared.error.JournalError.TheVariants as journal
use Rattle.check_files.specs.Files.{file_limit, AllReadToEnd, AreWithin, IsTextOf}
use Rattle.check_files.specs.declared.error.Unread.{Unread}
use Rattle.check_files.specs.declared.error.Unread.TheVariants as unread
use Rattle.check_files.specs.declared.error.CheckError.{CheckError}
use Rattle.check_files.specs.declared.error.CheckError.TheVariants.{OpenFault, ReadFault, TooLarge, BadLine, Memory}

abbrev pub of_journal : JournalError → CheckError
of_journal (journal.BadLine line) = BadLine line
of_journal journal.Memory = Memory

abbrev pub of_unread : ℕ → Unread → CheckError
of_unread file unread.Fault = ReadFault file
of_unread file unread.TooLarge = TooLarge file
of_unread file unread.Memory = Memory

-- this line of the journal's file is the first that no journal's text has there
pub record IsBadLineOf (texts : List (List ℕ)) (line : ℕ) : Type 0 where
  pub bytes : List ℕ
  pub bytes_are : IsTextOf texts 0 bytes
  pub bad : IsBadJournalLine (lines_of bytes) line

-- the file at this place gave more bytes than it may have
abbrev pub IsTooLarge : List (List ℕ) → ℕ → Type 0
IsTooLarge texts place = IsSomeAnd (slice_get texts place) (λ text. file_limit place < length text)

-- The files are read in order, before any line is. What was read before is within its limits.
abbrev pub WhyStopped : List (List ℕ) → CheckError → Type 0
WhyStopped texts (OpenFault file) = ⊥
WhyStopped texts (ReadFault file) = (file < length texts) × AreWithin texts file
WhyStopped texts (TooLarge file) = IsTooLarge texts file × AreWithin texts file
WhyStopped texts (BadLine line) = IsBadLineOf texts line × AreWithin texts (length texts)
WhyStopped texts Memory = ⊤

-- so it is at one place
abbrev pub IsStoppedAt : List (List ℕ) → ℕ → CheckError → Type 0
IsStoppedAt texts place (OpenFault file) = ⊥
IsStoppedAt texts place (ReadFault file) = file ≡ place
IsStoppedAt texts place (TooLarge file) = (file ≡ place) × IsTooLarge texts place
IsStoppedAt texts place (BadLine line) = ⊥
IsStoppedAt texts place Memory = ⊤

-- one count of failed reads rose
pub record RoseAt (file : ℕ) (olds news : List ℕ) : Type 0 where
  pub was : ℕ
  pub now : ℕ
  pub was_is : slice_get olds file ≡ Some was
  pub now_is : slice_get news file ≡ Some now
  pub rose : Rose was now
  pub others : (k : ℕ) → k ≢ file → slice_get news k ≡ slice_get olds k

-- the counts of failed reads are as they were, but where a read failed
abbrev pub FaultsBy : CheckError → List ℕ → List ℕ → Type 0
FaultsBy (OpenFault file) olds news = news ≡ olds
FaultsBy (ReadFault file) olds news = RoseAt file olds news
FaultsBy (TooLarge file) olds news = news ≡ olds
FaultsBy (BadLine line) olds news = news ≡ olds
FaultsBy Memory olds news = news ≡ olds

-- the files in front of this place were read to their ends, and those behind it were not read
pub record AreReadTo (place : ℕ) (olds news : List (List ℕ)) (were are : List Bool) : Type 0 where
  pub front : (k : ℕ) (ended : Bool) → k < place → slice_get are k ≡ Some ended → ended ≡ true
  pub behind : (k : ℕ) → place < k → slice_get news k ≡ slice_get olds k
  pub behind_ended : (k : ℕ) → place < k → slice_get are k ≡ slice_get were k

-- How far the files were read. A bad line is found once all were, and where memory was wanting it is free.
abbrev pub ReadsBy : CheckError → List (List ℕ) → List (List ℕ) → List Bool → List Bool → Type 0
ReadsBy (OpenFault file) olds news were are = (news ≡ olds) × (are ≡ were)
ReadsBy (ReadFault file) olds news were are = AreReadTo file olds news were are
ReadsBy (TooLarge file) olds news were are = AreReadTo file olds news were are
ReadsBy (BadLine line) olds news were are = AllReadToEnd are
ReadsBy Memory olds news were are = ⊤
