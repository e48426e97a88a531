use Rattle.serve_model.proofs.Going.{going_on}
use Rattle.serve_model.proofs.laws.going_on.Goals as goal

pub returns : goal.returns
returns c = going_on
