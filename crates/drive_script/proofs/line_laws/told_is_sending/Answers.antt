use Rattle.drive_script.proofs.Told.{told_sends}
use Rattle.drive_script.proofs.line_laws.told_is_sending.Goals as goal

pub returns : goal.returns
returns c = told_sends
