-- What a run does, by the command that its words name.
use Rattle.std.specs.Prelude.{◌≡◌, ◌≢◌, List, [], String}
use Rattle.std.specs.Global.{Global}
use Rattle.command_line.specs.GenerateTask.{generated_task_of}
use Rattle.serve_inputs.specs.Dumped.{no_dump}
use Rattle.command_line.specs.Check.{check_of}
use Rattle.command_line.specs.Join.{join_of}
use Rattle.command_line.specs.Named.{name_of}
use Rattle.command_line.specs.Task.{word_texts}
use Rattle.command_line.specs.declared.named.CommandName.{CommandName}
use Rattle.command_line.specs.declared.named.CommandName.TheVariants.{Serve, Frames, Check, Gen, Drive, Join}
use Rattle.flake_run.specs.Task.{RunTask, run_task_of}
use Rattle.flake_run.specs.DriveTask.{drive_job_of}
use Rattle.flake_run.specs.Outside.{Outside}
use Rattle.flake_run.specs.Outcome.{RunOutcome}
use Rattle.flake_run.specs.Served.{Served}
use Rattle.flake_run.specs.Untouched.{Untouched}
use Rattle.flake_run.specs.Causes.{Causes}
use Rattle.flake_run.specs.Complete.{Complete}
use Rattle.flake_run.specs.Said.{Said}
use Rattle.flake_run.specs.Checked.{Checked}
use Rattle.flake_run.specs.Generated.{Generated}
use Rattle.flake_run.specs.Drove.{Drove}
use Rattle.flake_run.specs.Joined.{Joined}

-- what `serve` does, and `frames`, whose task has a bound of frames
pub record ServeDoes {W : Type 0} (task : RunTask) (before after : Outside W) (done : RunOutcome) : Type 0 where
  -- the headline, where something was served
  pub served : done.ends ≢ [] → Served task before after done
  -- what stays as it was
  pub untouched : Untouched task before after done
  -- each status, end and detail has its cause
  pub causes : Causes task before after done
  -- nothing is refused without a cause
  pub complete : Complete task before after done
  -- what is said of it
  pub said : Said task before after done

-- what each command does; `serve` alone dumps
abbrev pub CommandDoes : {W : Type 0} → CommandName → List (String Global) → Outside W → Outside W → RunOutcome
    → Type 0
CommandDoes Serve words before after done = ServeDoes (run_task_of words) before after done
CommandDoes Frames words before after done = ServeDoes (run_task_of words) before after done
CommandDoes Check words before after done =
    Checked (check_of (word_texts words)) before after done × (done.dump ≡ no_dump)
CommandDoes Gen words before after done =
    Generated (generated_task_of (word_texts words)) before after done × (done.dump ≡ no_dump)
CommandDoes Drive words before after done = Drove (drive_job_of words) before after done × (done.dump ≡ no_dump)
CommandDoes Join words before after done =
    Joined (join_of (word_texts words)) before after done × (done.dump ≡ no_dump)

-- the command is the one that the first word names
abbrev pub RunDoes : {W : Type 0} → List (String Global) → Outside W → Outside W → RunOutcome → Type 0
RunDoes words before after done = CommandDoes (name_of (word_texts words)) words before after done
