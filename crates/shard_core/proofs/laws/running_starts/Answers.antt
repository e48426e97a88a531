use Rattle.shard_core.proofs.Running.{running_starts}
use Rattle.shard_core.proofs.laws.running_starts.Goals as goal

pub returns : goal.returns
returns c = running_starts
