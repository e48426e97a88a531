use Rattle.serve_model.proofs.Going.{going_breaks}
use Rattle.serve_model.proofs.laws.going_breaks.Goals as goal

pub returns : goal.returns
returns c = going_breaks
