use Rattle.serve_model.proofs.Copied.{copied_is_none}
use Rattle.serve_model.proofs.laws.not_copied.Goals as goal

pub returns : goal.returns
returns c = copied_is_none
