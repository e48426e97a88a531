use Rattle.drive_script.proofs.KeepsEnds.{kept_ring}
use Rattle.drive_script.proofs.line_laws.line_of_ring.Goals as goal

pub returns : goal.returns
returns c = kept_ring
