use Rattle.flake_model.proofs.OneServed.{in_order}
use Rattle.flake_model.proofs.laws.in_order.Goals as goal

pub returns : goal.returns
returns c = in_order
