use Rattle.drive_script.proofs.Keeps.{kept_dropped}
use Rattle.drive_script.proofs.line_laws.line_of_dropped.Goals as goal

pub returns : goal.returns
returns c = kept_dropped
