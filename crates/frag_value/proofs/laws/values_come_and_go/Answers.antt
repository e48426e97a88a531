use Rattle.frag_value.proofs.Exact as lemmas
use Rattle.frag_value.proofs.laws.values_come_and_go.Goals as goal

pub returns : goal.returns
returns c = lemmas.values_come_and_go
