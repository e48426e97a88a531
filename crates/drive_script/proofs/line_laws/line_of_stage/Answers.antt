use Rattle.drive_script.proofs.KeepsEnds.{kept_stage}
use Rattle.drive_script.proofs.line_laws.line_of_stage.Goals as goal

pub returns : goal.returns
returns c = kept_stage
