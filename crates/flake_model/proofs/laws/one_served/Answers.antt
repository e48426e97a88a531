use Rattle.flake_model.proofs.OneServed.{one_served}
use Rattle.flake_model.proofs.laws.one_served.Goals as goal

pub returns : goal.returns
returns c = one_served
