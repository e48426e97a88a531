-- What the words of the command line ask `drive` for.
use Rattle.std.specs.Prelude.{ℕ, ◌-◌, ◌*◌, ◌≤◌, ◌&&◌, Bool, nat_le, if◌then◌else◌}
use Rattle.std.specs.Prelude.{List, Option, Some, None, codes, length, map}
use Rattle.std.specs.Option.{option_and_then}
use Rattle.clap.specs.Walk.{Row}
use Rattle.command_line.specs.Command.{drive_command, rows_by}
use Rattle.command_line.specs.Named.{begins_with}
use Rattle.command_line.specs.Sizes.{AreAllowed, sizes_in}
use Rattle.command_line.specs.Task.{files_in}
use Rattle.command_line.specs.declared.drive.DriveTask.{DriveTask}
use Rattle.command_line.specs.declared.sizes.SizeOptions.{SizeOptions}

-- the schedule's name, and then those of the files whose requests are served, in order; and the sizes
pub record Drive : Type 0 where
  pub files : List (List ℕ)
  pub sizes : SizeOptions

-- there are a schedule and 1 to 16 files, and 128 small buffers for each of these
abbrev pub is_drive_of : List (List ℕ) → SizeOptions → Bool
is_drive_of files sizes =
    nat_le 2 (length files) && nat_le (length files) 17 && nat_le (128 * (length files - 1)) sizes.small

abbrev pub drive_for : List (List ℕ) → SizeOptions → Option Drive
drive_for files sizes = if is_drive_of files sizes then Some (record { files = files; sizes = sizes }) else None

abbrev pub drive_in : List Row → Option Drive
drive_in rows = option_and_then (drive_for (files_in rows)) (sizes_in rows)

-- the task that the words ask for, of which the first is `drive`; none where they are bad words
abbrev pub drive_of : List (List ℕ) → Option Drive
drive_of words =
    if begins_with (codes "drive") words then option_and_then drive_in (rows_by drive_command words) else None

-- the task, as the code holds it
abbrev pub shown_drive : DriveTask → Drive
shown_drive task = record { files = map (λ file. file.now) task.files.items; sizes = task.sizes }

-- a task that a run can be given
pub record IsDrivable (task : Drive) : Type 0 where
  pub sizes : AreAllowed task.sizes
  pub files : (2 ≤ length task.files) × (length task.files ≤ 17)
  pub small : 128 * (length task.files - 1) ≤ task.sizes.small
