use Rattle.flake_model.proofs.Refused.{no_read_ahead}
use Rattle.flake_model.proofs.laws.no_input_is_read_ahead.Goals as goal

pub returns : goal.returns
returns c = no_read_ahead
