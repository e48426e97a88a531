-- What the words of the command line ask for.
use Rattle.std.specs.Prelude.{ℕ, ◌+◌, Bool, false, List, [], Option, Some, None, String, length, map}
use Rattle.std.specs.Global.{Global}
use Rattle.std.specs.Option.{option_and_then, option_map, option_map_or}
use Rattle.pin_core.specs.declared.sizes.Sizes as pool
use Rattle.run_resources.specs.Opened.{dump_wires, pool_sizes}
use Rattle.run_resources.specs.declared.sizes.RunSizes.{RunSizes}
use Rattle.command_line.specs.Frames.{FramesRequest, frames_request_of}
use Rattle.command_line.specs.Named.{name_of}
use Rattle.command_line.specs.Task as words
use Rattle.command_line.specs.declared.named.CommandName.{CommandName}
use Rattle.command_line.specs.declared.named.CommandName.TheVariants.{Frames}
use Rattle.command_line.specs.declared.sizes.SizeOptions as typed
use Rattle.flake_run.specs.declared.words.FilesTask.{FilesTask}

-- the names of the files that are to be served, the sizes to serve them with, how many workers do it, and whether the
-- journal is what is said of it
pub record Job : Type 0 where
  pub names : List (List ℕ)
  pub sizes : RunSizes
  pub workers : ℕ
  pub journal : Bool

-- none where the words are bad words
abbrev pub RunTask : Type 0
RunTask = Option Job

abbrev pub run_sizes : Option ℕ → typed.SizeOptions → RunSizes
run_sizes dump sizes = record {
  shards = sizes.shards;
  small = sizes.small;
  large = sizes.large;
  ring = sizes.ring;
  threshold = sizes.threshold;
  dump = dump;
  mtu = None;
}

-- those of a run whose replies go as frames of at most so many bytes
abbrev pub framed_sizes : ℕ → typed.SizeOptions → RunSizes
framed_sizes mtu sizes = record (run_sizes None sizes) { mtu = Some mtu }

abbrev pub job_of : words.Task → Job
job_of task = record {
  names = task.files;
  sizes = run_sizes task.dump task.sizes;
  workers = task.workers;
  journal = task.journal;
}

abbrev pub framed_job_of : FramesRequest → Job
framed_job_of task = record {
  names = task.files;
  sizes = framed_sizes task.mtu task.sizes;
  workers = task.workers;
  journal = false;
}

-- by the command that the words name, which is `frames` or else `serve`
abbrev pub task_named : CommandName → List (List ℕ) → RunTask
task_named Frames typed = option_map framed_job_of (frames_request_of typed)
task_named _ typed = option_map job_of (words.task_of typed)

abbrev pub run_task_of : List (String Global) → RunTask
run_task_of typed = task_named (name_of (words.word_texts typed)) (words.word_texts typed)

-- the task, as the code holds it
abbrev pub shown_task : FilesTask → Job
shown_task task = record {
  names = map (λ file. file.now) task.files.items;
  sizes = task.sizes;
  workers = task.workers;
  journal = task.journal;
}

abbrev pub names_of : RunTask → List (List ℕ)
names_of None = []
names_of (Some job) = job.names

abbrev pub pool_of : RunTask → pool.Sizes
pool_of task =
    option_map_or (λ (job : Job). pool_sizes (length job.names) job.sizes) task
    (record { small = 0; large = 0; credits = 0 })

-- from how many bytes on a piece of an answer isn't copied
abbrev pub threshold_of : RunTask → ℕ
threshold_of task = option_map_or (λ (job : Job). job.sizes.threshold) task 0

abbrev pub shards_of : RunTask → ℕ
shards_of task = option_map_or (λ (job : Job). job.sizes.shards) task 0

-- before which call of the first session all shards are dumped, if they are
abbrev pub dump_of : RunTask → Option ℕ
dump_of task = option_and_then (λ (job : Job). job.sizes.dump) task

-- how many bytes a frame has at most, if replies go as frames
abbrev pub mtu_of : RunTask → Option ℕ
mtu_of task = option_and_then (λ (job : Job). job.sizes.mtu) task

-- how many wires are needed: one for each file, and one for the dump
abbrev pub wires_of : Job → ℕ
wires_of job = length job.names + dump_wires job.sizes.dump

abbrev pub wires_needed : RunTask → ℕ
wires_needed task = option_map_or wires_of task 0

-- whether the journal is what is said
abbrev pub shows_journal : RunTask → Bool
shows_journal task = option_map_or (λ (job : Job). job.journal) task false
