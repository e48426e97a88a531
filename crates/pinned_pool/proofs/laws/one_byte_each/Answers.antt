use Rattle.pinned_pool.proofs.Covering as covering
use Rattle.pinned_pool.proofs.laws.one_byte_each.Goals as goal

pub returns : goal.returns
returns c = covering.one_byte_each
