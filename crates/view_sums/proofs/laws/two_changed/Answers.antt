use Rattle.view_sums.proofs.Sums as sums
use Rattle.view_sums.proofs.laws.two_changed.Goals as goal

pub returns : goal.returns
returns g c = sums.two_changed
