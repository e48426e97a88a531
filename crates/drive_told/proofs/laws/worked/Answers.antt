use Rattle.drive_told.proofs.Worked.{worked_drive}
use Rattle.drive_told.proofs.laws.worked.Goals as goal

pub returns : goal.returns
returns c = worked_drive
