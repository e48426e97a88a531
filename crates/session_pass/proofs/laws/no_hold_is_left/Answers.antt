use Rattle.session_pass.proofs.GivenUp.{ends_with_none}
use Rattle.session_pass.proofs.laws.no_hold_is_left.Goals as goal

pub returns : goal.returns
returns c = ends_with_none
