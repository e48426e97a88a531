use Rattle.flake_model.proofs.Unmoved.{no_move}
use Rattle.flake_model.proofs.laws.no_fragment_is_moved.Goals as goal

pub returns : goal.returns
returns c = no_move
