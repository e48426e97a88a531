-- What the words of the command line ask for.
use Rattle.std.specs.Prelude.{ℕ, Bool, List, [], Option, None, codes, if◌then◌else◌, map, length, unwrap_or}
use Rattle.std.specs.Prelude.{◌≤◌, ◌*◌, ◌&&◌, false, nat_le, String, string_bytes}
use Rattle.std.specs.Global.{Global}
use Rattle.std.specs.Option.{option_and_then, option_map, option_map_or}
use Rattle.std.specs.Str.{bytes_eq}
use Rattle.clap.specs.Walk.{Row, all_of, first_of}
use Rattle.command_line.specs.Command.{rows_by, serve_command}
use Rattle.command_line.specs.Named.{begins_with}
use Rattle.command_line.specs.Sizes.{AreAllowed, dump_in, size_in, sizes_in, workers_limits}
use Rattle.command_line.specs.declared.sizes.SizeOptions.{SizeOptions}
use Rattle.command_line.specs.declared.task.ServeTask.{ServeTask}

-- the names of the files that are to be served, in order, the sizes to serve them with, how many workers do it, before
-- which call of the first session a dump is taken, if one is, and whether the journal is what is said of it
pub record Task : Type 0 where
  pub files : List (List ℕ)
  pub sizes : SizeOptions
  pub workers : ℕ
  pub dump : Option ℕ
  pub journal : Bool

-- there are 1 to 16 files, and 128 small buffers for each
abbrev pub fits_files : List (List ℕ) → SizeOptions → Bool
fits_files files sizes = nat_le 1 (length files) && nat_le (length files) 16 && nat_le (128 * length files) sizes.small

abbrev pub workers_in : List (List ℕ) → List Row → Option ℕ
workers_in files rows = size_in (codes "workers") (workers_limits (length files)) rows

-- whether a flag is there
abbrev pub flag_in : List ℕ → List Row → Bool
flag_in name rows = option_map_or (λ text. bytes_eq text (codes "true")) (first_of name rows) false

abbrev pub task_by : List (List ℕ) → List Row → SizeOptions → ℕ → Option ℕ → Task
task_by files rows sizes workers dump = record {
  files = files;
  sizes = sizes;
  workers = workers;
  dump = dump;
  journal = flag_in (codes "journal") rows;
}

abbrev pub task_for : List (List ℕ) → List Row → SizeOptions → Option Task
task_for files rows sizes = if fits_files files sizes then option_and_then
    (λ workers. option_map (task_by files rows sizes workers) (dump_in rows)) (workers_in files rows) else None

abbrev pub files_in : List Row → List (List ℕ)
files_in rows = unwrap_or (all_of (codes "file") rows) []

abbrev pub task_in : List Row → Option Task
task_in rows = option_and_then (task_for (files_in rows) rows) (sizes_in rows)

-- the task that the words ask for, of which the first is `serve`; none where they are bad words
abbrev pub task_of : List (List ℕ) → Option Task
task_of words =
    if begins_with (codes "serve") words then option_and_then task_in (rows_by serve_command words) else None

abbrev pub word_texts : List (String Global) → List (List ℕ)
word_texts words = map (λ word. string_bytes word) words

-- the task, as the code holds it
abbrev pub task_shown : ServeTask → Task
task_shown task = record {
  files = map (λ file. file.now) task.files.items;
  sizes = task.sizes;
  workers = task.workers;
  dump = task.dump;
  journal = task.journal;
}

-- a task that a run can be given
pub record IsAllowed (task : Task) : Type 0 where
  pub sizes : AreAllowed task.sizes
  pub files : (1 ≤ length task.files) × (length task.files ≤ 16)
  pub workers : (1 ≤ task.workers) × (task.workers ≤ 16)
  pub small : 128 * length task.files ≤ task.sizes.small
