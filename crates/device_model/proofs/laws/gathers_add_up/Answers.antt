use Rattle.std.specs.Prelude.{None}
use Rattle.device_model.proofs.Forwarding.{forwards-on}
use Rattle.device_model.proofs.laws.gathers_add_up.Goals as goal

pub returns : goal.returns
returns g c =
    λ failed between now before middle after old mid new first then.
    forwards-on None _ _ failed between now before middle after old mid new first then
