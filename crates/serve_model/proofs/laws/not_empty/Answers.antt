use Rattle.serve_model.proofs.Mixed.{empty_is_none}
use Rattle.serve_model.proofs.laws.not_empty.Goals as goal

pub returns : goal.returns
returns c = empty_is_none
