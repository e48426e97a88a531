-- What went by owns nothing, so any thread may have it.
use denote.Param.Send.{IsSend, owning_send}
use Rattle.flake_base.specs.contracts.past.Past.{the_row, the_type}

pub send : IsSend the_row
send = owning_send the_type tt (λ _. tt) (λ _ _ _. tt)
