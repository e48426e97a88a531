use Rattle.flake_model.proofs.Unmoved.{unmoved}
use Rattle.flake_model.proofs.laws.empty_append_moves_nothing.Goals as goal

pub returns : goal.returns
returns c = unmoved
