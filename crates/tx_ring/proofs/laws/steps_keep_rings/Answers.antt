use Rattle.tx_ring.proofs.StepKinds as kinds
use Rattle.tx_ring.proofs.laws.steps_keep_rings.Goals as goal

pub returns : goal.returns
returns g c = kinds.steps-keep-rings g.P.Framed.segs
