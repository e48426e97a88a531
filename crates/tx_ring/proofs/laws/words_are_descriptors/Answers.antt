use Rattle.tx_ring.proofs.InDescriptors as words
use Rattle.tx_ring.proofs.laws.words_are_descriptors.Goals as goal

pub returns : goal.returns
returns g c = words.words-are-descriptors g.P.Framed.segs
