use Rattle.tx_ring.proofs.StepKinds as kinds
use Rattle.tx_ring.proofs.laws.runs_are_told.Goals as goal

pub returns : goal.returns
returns g c = kinds.runs-are-told g.P.Framed.segs
