use Rattle.flake_model.proofs.InTurn.{in_front}
use Rattle.flake_model.proofs.laws.requests_in_front_are_answered.Goals as goal

pub returns : goal.returns
returns c = in_front
