use Rattle.serve_model.proofs.Mixed.{small_is_none}
use Rattle.serve_model.proofs.laws.not_small.Goals as goal

pub returns : goal.returns
returns c = small_is_none
