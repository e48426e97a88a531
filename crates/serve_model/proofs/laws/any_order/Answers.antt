use Rattle.serve_model.proofs.Seats.{any_order}
use Rattle.serve_model.proofs.laws.any_order.Goals as goal

pub returns : goal.returns
returns c = any_order
