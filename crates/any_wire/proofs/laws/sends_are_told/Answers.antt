use Rattle.any_wire.proofs.Sent.{sent_by_puts}
use Rattle.any_wire.proofs.laws.sends_are_told.Goals as goal

pub returns : goal.returns
returns g c = λ tells says. sent_by_puts _ _ tells says
