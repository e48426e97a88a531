use Rattle.frag_value.proofs.FewSteps.{are_few}
use Rattle.frag_value.proofs.laws.few_fragments.Goals as goal

pub returns : goal.returns
returns c = are_few
