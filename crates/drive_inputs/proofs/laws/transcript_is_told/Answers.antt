use Rattle.drive_inputs.proofs.Told.{transcript_told}
use Rattle.drive_inputs.proofs.laws.transcript_is_told.Goals as goal

pub returns : goal.returns
returns g c = λ tells. transcript_told _ _ tells
