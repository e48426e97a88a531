use Rattle.transcript_model.proofs.Rows.{all_worked}
use Rattle.transcript_model.proofs.laws.worked_transcripts.Goals as goal

pub returns : goal.returns
returns c = all_worked
