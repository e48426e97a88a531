-- What the words of the command line ask `drive` for.
use Rattle.std.specs.Prelude.{ℕ, ◌<◌, List, Option, Some, None, String, length, map, drop, ⊤}
use Rattle.std.specs.Global.{Global}
use Rattle.std.specs.Option.{option_map}
use Rattle.run_resources.specs.declared.sizes.RunSizes.{RunSizes}
use Rattle.command_line.specs.Drive as words
use Rattle.command_line.specs.Task.{word_texts}
use Rattle.command_line.specs.declared.drive.DriveTask.{DriveTask}
use Rattle.flake_run.specs.Outside.{Outside}
use Rattle.flake_run.specs.Task.{run_sizes}

-- the schedule's name, and then those of the files whose requests are served; and the sizes
pub record DriveJob : Type 0 where
  pub names : List (List ℕ)
  pub sizes : RunSizes

abbrev pub drive_job : words.Drive → DriveJob
drive_job task = record { names = task.files; sizes = run_sizes None task.sizes }

-- none where the words are bad words
abbrev pub drive_job_of : List (String Global) → Option DriveJob
drive_job_of typed = option_map drive_job (words.drive_of (word_texts typed))

-- the task, as the code holds it
abbrev pub shown_job : DriveTask → DriveJob
shown_job task = record { names = map (λ file. file.now) task.files.items; sizes = run_sizes None task.sizes }

-- the files whose requests are served: all but the first, which is the schedule's
abbrev pub served_names : DriveJob → List (List ℕ)
served_names job = drop 1 job.names

-- there is no task, or not a wire for each of these files
abbrev pub IsUndrivable : {W : Type 0} → Option DriveJob → Outside W → Type 0
IsUndrivable None before = ⊤
IsUndrivable (Some job) before = length before.wires < length (served_names job)
