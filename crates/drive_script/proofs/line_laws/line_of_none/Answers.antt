use Rattle.drive_script.proofs.KeepsReaps.{kept_none}
use Rattle.drive_script.proofs.line_laws.line_of_none.Goals as goal

pub returns : goal.returns
returns c = kept_none
