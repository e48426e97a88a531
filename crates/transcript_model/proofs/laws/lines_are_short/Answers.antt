use Rattle.transcript_model.proofs.Lengths.{posted_short}
use Rattle.transcript_model.proofs.laws.lines_are_short.Goals as goal

pub returns : goal.returns
returns c = posted_short
