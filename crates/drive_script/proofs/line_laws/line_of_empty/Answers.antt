use Rattle.drive_script.proofs.KeepsReaps.{kept_empty}
use Rattle.drive_script.proofs.line_laws.line_of_empty.Goals as goal

pub returns : goal.returns
returns c = kept_empty
