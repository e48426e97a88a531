use Rattle.serve_model.proofs.Going.{with_stage}
use Rattle.serve_model.proofs.laws.with_stage.Goals as goal

pub returns : goal.returns
returns c = with_stage
