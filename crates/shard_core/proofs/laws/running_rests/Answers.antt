use Rattle.shard_core.proofs.Running.{running_rests}
use Rattle.shard_core.proofs.laws.running_rests.Goals as goal

pub returns : goal.returns
returns c = running_rests
