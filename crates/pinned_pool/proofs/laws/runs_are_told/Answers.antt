use Rattle.pinned_pool.proofs.Telling as telling
use Rattle.pinned_pool.proofs.laws.runs_are_told.Goals as goal

pub returns : goal.returns
returns c = telling.runs_are_told
