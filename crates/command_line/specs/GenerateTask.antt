-- What the words of the command line ask for.
use Rattle.std.specs.Prelude.{ℕ, ◌≤◌, ◌-◌, ◌^◌, List, Option, Some, None, codes, if◌then◌else◌}
use Rattle.std.specs.Option.{option_and_then}
use Rattle.clap.specs.Walk.{Row}
use Rattle.command_line.specs.GenerateCommand.{rows_in}
use Rattle.command_line.specs.Named.{begins_with}
use Rattle.command_line.specs.Numbers.{number_in, number_or}
use Rattle.command_line.specs.declared.generate_task.GenTask.{GenTask}

-- all numbers of so many sessions
abbrev pub all_numbers : ℕ → Option ℕ → Option ℕ → Option ℕ → Option GenTask
all_numbers sessions (Some number) (Some requests) (Some workers) =
    Some (record { number = number; sessions = sessions; requests = requests; workers = workers })
all_numbers sessions _ _ _ = None

-- 1 to 16 sessions, 1 to 4,000 requests, and 1 to 16 workers: one for each session, where no word says another number
abbrev pub generated_task_in : List Row → Option GenTask
generated_task_in rows = option_and_then
    (λ sessions. all_numbers sessions (number_in (codes "number") (2 ^ 32 - 1) rows)
    (number_or (codes "requests") 4000 1000 rows) (number_or (codes "workers") 16 sessions rows))
    (number_or (codes "sessions") 16 4 rows)

-- the task that the words ask for; none where they are bad words
abbrev pub generated_task_of : List (List ℕ) → Option GenTask
generated_task_of words =
    if begins_with (codes "gen") words then option_and_then generated_task_in (rows_in words) else None

-- a task that a run can be given
pub record IsAllowedGenerated (task : GenTask) : Type 0 where
  pub sessions : (1 ≤ task.sessions) × (task.sessions ≤ 16)
  pub requests : (1 ≤ task.requests) × (task.requests ≤ 4000)
  pub workers : (1 ≤ task.workers) × (task.workers ≤ 16)
