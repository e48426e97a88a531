use Rattle.drive_script.proofs.Keeps.{kept_sent}
use Rattle.drive_script.proofs.line_laws.line_of_sent.Goals as goal

pub returns : goal.returns
returns c = kept_sent
