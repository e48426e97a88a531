use Rattle.drive_script.proofs.Beginning.{new_are_fresh}
use Rattle.drive_script.proofs.ByPuts.{puts_are_sending}
use Rattle.drive_script.proofs.Rows.{going_all, drove_all}
use Rattle.drive_script.proofs.driven.drive.Goals as goal

pub drive_lines-failed-requires-clause-fresh : goal.drive_lines-failed-requires-clause-fresh
drive_lines-failed-requires-clause-fresh g c = λ _ _. new_are_fresh _ (puts_are_sending _ _) _ _ c.args.sessions.items _
    c.requires.fresh

pub leave_all-accounts-requires-clause-going : goal.leave_all-accounts-requires-clause-going
leave_all-accounts-requires-clause-going g c = λ _ _. going_all _ _ _ _ _ _ _ _ _ _ c.drive_lines-failed.ensures.driven

pub returns : goal.returns
returns g c = record {
  driven = drove_all _ _ _ _ _ _ _ c.args.schedule.now c.drive_lines-failed.new.sessions.items
      c.leave_all-accounts.result.items c.drive_lines-failed.result _ _ c.drive_lines-failed.ensures.driven
      c.leave_all-accounts.ensures;
}
