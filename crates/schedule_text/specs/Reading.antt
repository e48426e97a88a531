-- What the lines of a text are read as.
use Rattle.std.specs.Prelude.{◌≡◌, ◌≢◌, ℕ, ◌-◌, ◌<◌, ◌≤◌, List, [], length, map, take, slice_index_or, ⊤}
use Rattle.std.specs.List.{AllByRecursion}
use Rattle.schedule_text.specs.declared.error.ScheduleError.{ScheduleError}
use Rattle.schedule_text.specs.declared.error.ScheduleError.TheVariants.{BadLine, Memory}
use Rattle.schedule_text.specs.declared.line.Line.{Line}
use Rattle.schedule_text.specs.Text.{schedule_line, line_session}

-- the lines are those of this schedule, for so many sessions
pub record AreScheduleLines (sessions : ℕ) (lines : List (List ℕ)) (schedule : List Line) : Type 0 where
  pub within : AllByRecursion (λ line. line_session line < sessions) schedule
  pub lines_are : lines ≡ map schedule_line schedule

-- The first line that asks for nothing, counted from 1: those before it are a schedule's.
pub record IsBadScheduleLine (sessions : ℕ) (lines : List (List ℕ)) (line : ℕ) : Type 0 where
  pub counted : 1 ≤ line
  pub there : line ≤ length lines
  pub schedule : List Line
  pub good : AreScheduleLines sessions (take (line - 1) lines) schedule
  pub bad : (asked : Line) → line_session asked < sessions → slice_index_or lines (line - 1) [] ≢ schedule_line asked

-- an error but for want of memory is that of a bad line
abbrev pub IsScheduleFault : ℕ → List (List ℕ) → ScheduleError → Type 0
IsScheduleFault sessions lines (BadLine line) = IsBadScheduleLine sessions lines line
IsScheduleFault sessions lines Memory = ⊤
