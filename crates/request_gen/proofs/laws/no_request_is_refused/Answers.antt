use Rattle.request_gen.proofs.Meant.{is_meant}
use Rattle.request_gen.proofs.laws.no_request_is_refused.Goals as goal

pub returns : goal.returns
returns c = is_meant
