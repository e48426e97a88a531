use Rattle.flake_model.proofs.Refused.{no_refused_write}
use Rattle.flake_model.proofs.laws.no_write_is_refused.Goals as goal

pub returns : goal.returns
returns c = no_refused_write
