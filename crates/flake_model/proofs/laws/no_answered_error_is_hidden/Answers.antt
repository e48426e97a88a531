use Rattle.flake_model.proofs.Refused.{no_answered_error}
use Rattle.flake_model.proofs.laws.no_answered_error_is_hidden.Goals as goal

pub returns : goal.returns
returns c = no_answered_error
