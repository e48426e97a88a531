use Rattle.session_pass.proofs.GivenUp.{ends_as_it_began}
use Rattle.session_pass.proofs.laws.holds_end_as_they_began.Goals as goal

pub returns : goal.returns
returns c = ends_as_it_began
