use Rattle.shard_core.proofs.Running.{cuts_before}
use Rattle.shard_core.proofs.laws.cuts_before.Goals as goal

pub returns : goal.returns
returns c = cuts_before
