-- What the source of a schedule comes to.
use Rattle.std.specs.Prelude.{◌≡◌, ◌≤◌, ◌<◌, ℕ, Bool, true, List, length, ⊤}
use Rattle.flake_base.specs.Causes.{Rose}
use Rattle.journal_text.specs.Lines.{lines_of}
use Rattle.schedule_text.specs.Reading.{AreScheduleLines, IsBadScheduleLine}
use Rattle.schedule_text.specs.declared.line.Line.{Line}
use Rattle.flake_run.specs.declared.finding.Finding.{Finding}
use Rattle.flake_run.specs.declared.finding.Finding.TheVariants.{BadWords, OpenFault, ReadFault, TooLarge, BadLine}
use Rattle.flake_run.specs.declared.finding.Finding.TheVariants.{Judged, BadFrame, Missing, Memory}

-- how many bytes it may have
abbrev pub schedule_limit : ℕ
schedule_limit = 67_108_864

-- The source was read to its end, and what it gave has the lines of this schedule, for so many sessions.
pub record HasSchedule (sessions : ℕ) (given : List ℕ) (ended : Bool) (schedule : List Line) : Type 0 where
  pub end : ended ≡ true
  pub within : length given ≤ schedule_limit
  pub lines : AreScheduleLines sessions (lines_of given) schedule

-- The source was read to its end, and this line of what it gave is the first that isn't of its form.
pub record HasBadLine (sessions : ℕ) (given : List ℕ) (ended : Bool) (line : ℕ) : Type 0 where
  pub end : ended ≡ true
  pub within : length given ≤ schedule_limit
  pub bad : IsBadScheduleLine sessions (lines_of given) line

-- Why what it gave is no schedule, of which the file has number 0; and how often its reads had failed before and
-- behind. Where memory was wanting these are free.
abbrev pub IsUndriven : Finding → ℕ → List ℕ → Bool → ℕ → ℕ → Type 0
IsUndriven BadWords sessions given ended old new = ⊥
IsUndriven (OpenFault file) sessions given ended old new = ⊥
IsUndriven (ReadFault file) sessions given ended old new = (file ≡ 0) × Rose old new
IsUndriven (TooLarge file) sessions given ended old new = (file ≡ 0) × (schedule_limit < length given) × (new ≡ old)
IsUndriven (BadLine line) sessions given ended old new = HasBadLine sessions given ended line × (new ≡ old)
IsUndriven (Judged verdict) sessions given ended old new = ⊥
IsUndriven (BadFrame number) sessions given ended old new = ⊥
IsUndriven (Missing call frame) sessions given ended old new = ⊥
IsUndriven Memory sessions given ended old new = ⊤
