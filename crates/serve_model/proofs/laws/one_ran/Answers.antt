use Rattle.serve_model.proofs.One.{one_ran}
use Rattle.serve_model.proofs.laws.one_ran.Goals as goal

pub returns : goal.returns
returns c = one_ran
