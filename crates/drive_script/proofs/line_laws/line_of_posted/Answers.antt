use Rattle.drive_script.proofs.KeepsCalls.{kept_call}
use Rattle.drive_script.proofs.line_laws.line_of_posted.Goals as goal

pub returns : goal.returns
returns c = kept_call
