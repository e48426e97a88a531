use Rattle.serve_model.proofs.Seats.{joins_add}
use Rattle.serve_model.proofs.laws.joins_add.Goals as goal

pub returns : goal.returns
returns c = joins_add
