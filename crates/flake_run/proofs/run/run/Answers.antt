use Rattle.std.proofs.Common.{sym, ◌∙◌}
use Rattle.flake_run.proofs.RunUndumped.{run_checks, run_drives, run_generates, run_joins}
use Rattle.flake_run.proofs.run.run.Goals as goal

pub returns-in-Check : goal.returns-in-Check
returns-in-Check g c =
    run_checks c.args.words.now _ _ _ _ _ _ _ _ _ _ c.check.ensures.dump (sym c.command_name.ensures ∙ c.in-Check.is)
    c.check.ensures.does

pub returns-in-Drive : goal.returns-in-Drive
returns-in-Drive g c =
    run_drives c.args.words.now _ _ _ _ _ _ _ _ _ _ c.drive.ensures.dump (sym c.command_name.ensures ∙ c.in-Drive.is)
    c.drive.ensures.does

pub returns-in-Gen : goal.returns-in-Gen
returns-in-Gen g c =
    run_generates c.args.words.now _ _ _ _ _ _ _ _ _ _ c.generate.ensures.dump
    (sym c.command_name.ensures ∙ c.in-Gen.is) c.generate.ensures.does

pub returns-in-Join : goal.returns-in-Join
returns-in-Join g c =
    run_joins c.args.words.now _ _ _ _ _ _ _ _ _ _ c.join.ensures.dump (sym c.command_name.ensures ∙ c.in-Join.is)
    c.join.ensures.does
