use Rattle.serve_model.proofs.Seats.{one_seat}
use Rattle.serve_model.proofs.laws.one_seat.Goals as goal

pub returns : goal.returns
returns c = one_seat
