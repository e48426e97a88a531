use Rattle.transcript_model.proofs.Shared.{shared_is_wrong}
use Rattle.transcript_model.proofs.laws.no_stage_is_shared.Goals as goal

pub returns : goal.returns
returns c = shared_is_wrong
