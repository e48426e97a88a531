use Rattle.serve_model.proofs.Going.{going_ends}
use Rattle.serve_model.proofs.laws.going_ends.Goals as goal

pub returns : goal.returns
returns c = going_ends
