use Rattle.frag_value.proofs.Carried as lemmas
use Rattle.frag_value.proofs.laws.holds_come_back.Goals as goal

pub returns : goal.returns
returns c = lemmas.holds_come_back
