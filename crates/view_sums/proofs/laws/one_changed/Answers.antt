use Rattle.view_sums.proofs.Sums as sums
use Rattle.view_sums.proofs.laws.one_changed.Goals as goal

pub returns : goal.returns
returns g c = sums.one_changed
