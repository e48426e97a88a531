use Rattle.serve_model.proofs.Going.{going_starts}
use Rattle.serve_model.proofs.laws.going_starts.Goals as goal

pub returns : goal.returns
returns c = going_starts
