use Rattle.serve_model.proofs.Mixed.{mixed_is_none}
use Rattle.serve_model.proofs.laws.not_mixed.Goals as goal

pub returns : goal.returns
returns c = mixed_is_none
