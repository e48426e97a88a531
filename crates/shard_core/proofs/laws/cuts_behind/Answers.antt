use Rattle.shard_core.proofs.Running.{cuts_behind}
use Rattle.shard_core.proofs.laws.cuts_behind.Goals as goal

pub returns : goal.returns
returns c = cuts_behind
