use Rattle.drive_told.proofs.Joined.{together}
use Rattle.drive_told.proofs.laws.driven_together.Goals as goal

pub returns : goal.returns
returns g c = together _
