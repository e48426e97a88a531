use Rattle.flake_model.proofs.Refused.{all_entered}
use Rattle.flake_model.proofs.laws.every_part_is_entered.Goals as goal

pub returns : goal.returns
returns c = all_entered
