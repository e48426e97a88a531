use Rattle.serve_model.proofs.Seats.{idle_starts}
use Rattle.serve_model.proofs.laws.idle_starts.Goals as goal

pub returns : goal.returns
returns c = idle_starts
