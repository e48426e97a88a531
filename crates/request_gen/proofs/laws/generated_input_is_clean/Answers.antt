use Rattle.request_gen.proofs.Clean.{is_clean}
use Rattle.request_gen.proofs.laws.generated_input_is_clean.Goals as goal

pub returns : goal.returns
returns c = is_clean
