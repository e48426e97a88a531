use Rattle.view_sums.proofs.Sums as sums
use Rattle.view_sums.proofs.laws.one_added.Goals as goal

pub returns : goal.returns
returns g c = sums.one_added
