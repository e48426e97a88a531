use Rattle.drive_script.proofs.KeepsEnds.{kept_end}
use Rattle.drive_script.proofs.line_laws.line_of_end.Goals as goal

pub returns : goal.returns
returns c = kept_end
