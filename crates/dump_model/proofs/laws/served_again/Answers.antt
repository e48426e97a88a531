use Rattle.dump_model.proofs.Again.{served_again}
use Rattle.dump_model.proofs.laws.served_again.Goals as goal

pub returns : goal.returns
returns c = served_again
