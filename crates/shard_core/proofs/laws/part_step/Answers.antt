use Rattle.shard_core.proofs.Running.{part_step}
use Rattle.shard_core.proofs.laws.part_step.Goals as goal

pub returns : goal.returns
returns c = part_step
