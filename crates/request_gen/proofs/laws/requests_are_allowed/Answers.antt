use Rattle.request_gen.proofs.Allowed.{all_allowed}
use Rattle.request_gen.proofs.laws.requests_are_allowed.Goals as goal

pub returns : goal.returns
returns c = all_allowed
