use Rattle.transcript_model.proofs.Whole.{whole_of_two}
use Rattle.transcript_model.proofs.laws.whole_transcript.Goals as goal

pub returns : goal.returns
returns c = whole_of_two
