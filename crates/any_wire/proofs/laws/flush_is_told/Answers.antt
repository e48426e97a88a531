use Rattle.any_wire.proofs.Sent.{flush_told}
use Rattle.any_wire.proofs.laws.flush_is_told.Goals as goal

pub returns : goal.returns
returns g c = λ tells says. flush_told _ _ tells says
