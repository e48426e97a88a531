use Rattle.pinned_pool.proofs.Running as running
use Rattle.pinned_pool.proofs.laws.runs_stay_sound.Goals as goal

pub returns : goal.returns
returns c = running.runs_stay_sound
