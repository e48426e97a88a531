use Rattle.tx_ring.proofs.PlayKinds as kinds
use Rattle.tx_ring.proofs.laws.plays_are_kinds.Goals as goal

pub returns : goal.returns
returns g c = kinds.plays-are-kinds g.P.Framed.segs
