use Rattle.frag_value.proofs.Staying as lemmas
use Rattle.frag_value.proofs.laws.values_stay.Goals as goal

pub returns : goal.returns
returns c = lemmas.values_stay
