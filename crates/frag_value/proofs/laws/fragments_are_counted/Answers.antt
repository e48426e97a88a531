use Rattle.frag_value.proofs.Counting as lemmas
use Rattle.frag_value.proofs.laws.fragments_are_counted.Goals as goal

pub returns : goal.returns
returns c = lemmas.fragments_are_counted
