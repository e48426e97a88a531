use Rattle.serve_model.proofs.Going.{session_ran}
use Rattle.serve_model.proofs.laws.session_ran.Goals as goal

pub returns : goal.returns
returns c = session_ran
