use Rattle.transcript_model.proofs.Rows.{none_wrong}
use Rattle.transcript_model.proofs.laws.wrong_transcripts.Goals as goal

pub returns : goal.returns
returns c = none_wrong
