use Rattle.drive_told.proofs.Wires.{told}
use Rattle.drive_told.proofs.laws.transcript_told.Goals as goal

pub returns : goal.returns
returns g c = told _
