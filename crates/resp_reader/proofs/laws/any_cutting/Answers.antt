use Rattle.resp_reader.proofs.Cutting.{any_cutting}
use Rattle.resp_reader.proofs.laws.any_cutting.Goals as goal

pub returns : goal.returns
returns c = any_cutting
