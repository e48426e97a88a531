use Rattle.dump_model.proofs.Worked.{table_is}
use Rattle.dump_model.proofs.laws.worked_dumps.Goals as goal

pub returns : goal.returns
returns c = table_is
