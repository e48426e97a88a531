use Rattle.transcript_model.proofs.Sourced.{sourced}
use Rattle.transcript_model.proofs.laws.journal_tells.Goals as goal

pub returns : goal.returns
returns c = sourced
