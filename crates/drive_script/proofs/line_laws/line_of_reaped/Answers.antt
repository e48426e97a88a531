use Rattle.drive_script.proofs.KeepsReaps.{kept_reap}
use Rattle.drive_script.proofs.line_laws.line_of_reaped.Goals as goal

pub returns : goal.returns
returns c = kept_reap
