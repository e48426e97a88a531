use Rattle.flake_model.proofs.Refused.{takes_all_given}
use Rattle.flake_model.proofs.laws.stopped_takes_all.Goals as goal

pub returns : goal.returns
returns c = takes_all_given
