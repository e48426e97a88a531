use Rattle.frag_value.proofs.HeldCounts as lemmas
use Rattle.frag_value.proofs.laws.values_are_counted.Goals as goal

pub returns : goal.returns
returns c = lemmas.values_are_counted
