use Rattle.flake_model.proofs.Refused.{whole_input}
use Rattle.flake_model.proofs.laws.whole_input.Goals as goal

pub returns : goal.returns
returns c = whole_input
