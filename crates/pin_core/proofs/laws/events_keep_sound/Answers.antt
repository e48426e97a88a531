use Rattle.pin_core.proofs.Steps as steps
use Rattle.pin_core.proofs.laws.events_keep_sound.Goals as goal

pub returns : goal.returns
returns g c = steps.events_keep_sound
