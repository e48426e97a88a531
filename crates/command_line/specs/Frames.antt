-- What the words of the command line ask `frames` for.
use Rattle.std.specs.Prelude.{ℕ, ◌*◌, ◌≤◌, if◌then◌else◌}
use Rattle.std.specs.Prelude.{List, [], ◌∷◌, Option, None, codes, length, map}
use Rattle.std.specs.Option.{option_and_then, option_map}
use Rattle.clap.specs.Walk.{Row}
use Rattle.flake_model.specs.Range.{signed_of}
use Rattle.command_line.specs.Command.{frames_command, rows_by}
use Rattle.command_line.specs.Named.{begins_with}
use Rattle.command_line.specs.Sizes.{AreAllowed, number_between, sizes_in}
use Rattle.command_line.specs.Task.{files_in, fits_files, workers_in}
use Rattle.command_line.specs.declared.frames.FramesTask.{FramesTask}
use Rattle.command_line.specs.declared.sizes.SizeOptions.{SizeOptions}

-- the most bytes of a frame, and the files that are to be served, with the sizes and by how many workers
pub record FramesRequest : Type 0 where
  pub mtu : ℕ
  pub files : List (List ℕ)
  pub sizes : SizeOptions
  pub workers : ℕ

abbrev pub frames_with : List Row → List (List ℕ) → SizeOptions → ℕ → Option FramesRequest
frames_with rows files sizes mtu =
    if fits_files files sizes
    then option_map (λ workers. record { mtu = mtu; files = files; sizes = sizes; workers = workers })
    (workers_in files rows) else None

-- the first word that is no option is the number, and the others are the files
abbrev pub frames_for : List Row → List (List ℕ) → Option FramesRequest
frames_for rows [] = None
frames_for rows (mtu ∷ files) = option_and_then
    (λ sizes. option_and_then (frames_with rows files sizes) (number_between 64 9216 (signed_of mtu))) (sizes_in rows)

-- the task that the words ask for, of which the first is `frames`; none where they are bad words
abbrev pub frames_request_of : List (List ℕ) → Option FramesRequest
frames_request_of words =
    if begins_with (codes "frames") words
    then option_and_then (λ rows. frames_for rows (files_in rows)) (rows_by frames_command words) else None

-- the task, as the code holds it
abbrev pub shown_frames : FramesTask → FramesRequest
shown_frames task = record {
  mtu = task.mtu;
  files = map (λ file. file.now) task.files.items;
  sizes = task.sizes;
  workers = task.workers;
}

-- a task that a run can be given
pub record CanServeFrames (task : FramesRequest) : Type 0 where
  pub mtu : (64 ≤ task.mtu) × (task.mtu ≤ 9216)
  pub sizes : AreAllowed task.sizes
  pub files : (1 ≤ length task.files) × (length task.files ≤ 16)
  pub workers : (1 ≤ task.workers) × (task.workers ≤ 16)
  pub small : 128 * length task.files ≤ task.sizes.small
