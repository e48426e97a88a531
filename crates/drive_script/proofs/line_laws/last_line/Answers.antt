use Rattle.drive_script.proofs.Finals.{told_at_last}
use Rattle.drive_script.proofs.line_laws.last_line.Goals as goal

pub returns : goal.returns
returns c = told_at_last
