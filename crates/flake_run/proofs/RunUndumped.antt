-- What a run does whose command dumps nothing.
use Rattle.std.proofs.Common.{◌≡◌, ℕ, List, Option, sym, subst}
use Rattle.std.specs.Prelude.{String}
use Rattle.std.specs.Global.{Global}
use Rattle.flake_base.specs.Roomy.{Roomy}
use Rattle.flake_base.specs.declared.journal.Entry.{Entry}
use Rattle.flake_base.specs.declared.session.SessionEnd.{SessionEnd}
use Rattle.command_line.specs.GenerateTask.{generated_task_of}
use Rattle.pin_core.specs.declared.class.Held.{Held}
use Rattle.pinned_pool.specs.Ends.{End as PoolEnd}
use Rattle.serve_inputs.specs.Dumped.{DumpTold, no_dump}
use Rattle.command_line.specs.Check.{check_of}
use Rattle.command_line.specs.Join.{join_of}
use Rattle.command_line.specs.Named.{name_of}
use Rattle.command_line.specs.Task.{word_texts}
use Rattle.command_line.specs.declared.named.CommandName.{CommandName}
use Rattle.command_line.specs.declared.named.CommandName.TheVariants.{Check, Gen, Drive, Join}
use Rattle.flake_run.specs.Checked.{Checked}
use Rattle.flake_run.specs.Does.{CommandDoes, RunDoes}
use Rattle.flake_run.specs.DriveTask.{drive_job_of}
use Rattle.flake_run.specs.Drove.{Drove}
use Rattle.flake_run.specs.Generated.{Generated}
use Rattle.flake_run.specs.Joined.{Joined}
use Rattle.flake_run.specs.Outcome.{RunOutcome, SourceTold, done, done_with}
use Rattle.flake_run.specs.Outside.{Outside}
use Rattle.flake_run.specs.declared.outcome.Detail.{Detail}
use Rattle.flake_run.specs.declared.outcome.Opened.{Opened}

module _ {W : Type 0} (words : List (String Global)) (before after : Outside W) (dump : DumpTold) (status : ℕ)
    (detail : Detail) (ends : List SessionEnd) (journal : List (Roomy Entry)) (held : Held) (pool : Option PoolEnd)
    (sources : List (Opened SourceTold)) (none : dump ≡ no_dump) where
  -- by the command that its arguments name
  by_name : (name : CommandName) → name_of (word_texts words) ≡ name
      → CommandDoes name words before after (done_with dump status detail ends journal held pool sources)
      → RunDoes words before after (done_with dump status detail ends journal held pool sources)
  by_name name is does =
      subst (λ n. CommandDoes n words before after (done_with dump status detail ends journal held pool sources))
      (sym is) does

  -- what is true without a dump is true of it
  as_told : (Does : RunOutcome → Type 0) → Does (done status detail ends journal held pool sources)
      → Does (done_with dump status detail ends journal held pool sources)
  as_told Does does = subst (λ d. Does (done_with d status detail ends journal held pool sources)) (sym none) does

  pub run_checks : name_of (word_texts words) ≡ Check
      → Checked (check_of (word_texts words)) before after (done status detail ends journal held pool sources)
      → RunDoes words before after (done_with dump status detail ends journal held pool sources)
  run_checks is does = by_name Check is (as_told (Checked (check_of (word_texts words)) before after) does, none)

  pub run_generates : name_of (word_texts words) ≡ Gen
      → Generated (generated_task_of (word_texts words)) before after
      (done status detail ends journal held pool sources)
      → RunDoes words before after (done_with dump status detail ends journal held pool sources)
  run_generates is does =
      by_name Gen is (as_told (Generated (generated_task_of (word_texts words)) before after) does, none)

  pub run_drives : name_of (word_texts words) ≡ Drive
      → Drove (drive_job_of words) before after (done status detail ends journal held pool sources)
      → RunDoes words before after (done_with dump status detail ends journal held pool sources)
  run_drives is does = by_name Drive is (as_told (Drove (drive_job_of words) before after) does, none)

  pub run_joins : name_of (word_texts words) ≡ Join
      → Joined (join_of (word_texts words)) before after (done status detail ends journal held pool sources)
      → RunDoes words before after (done_with dump status detail ends journal held pool sources)
  run_joins is does = by_name Join is (as_told (Joined (join_of (word_texts words)) before after) does, none)
