use Rattle.serve_model.proofs.Going.{going_rests}
use Rattle.serve_model.proofs.laws.going_rests.Goals as goal

pub returns : goal.returns
returns c = going_rests
