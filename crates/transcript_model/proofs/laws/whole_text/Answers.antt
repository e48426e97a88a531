use Rattle.transcript_model.proofs.Whole.{text_of_two}
use Rattle.transcript_model.proofs.laws.whole_text.Goals as goal

pub returns : goal.returns
returns c = text_of_two
