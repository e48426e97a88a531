use Rattle.shard_core.proofs.Running.{cuts_rest}
use Rattle.shard_core.proofs.laws.cuts_rest.Goals as goal

pub returns : goal.returns
returns c = cuts_rest
