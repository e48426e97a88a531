use Rattle.drive_script.proofs.Finals.{kept_at_first}
use Rattle.drive_script.proofs.line_laws.first_line.Goals as goal

pub returns : goal.returns
returns c = kept_at_first
