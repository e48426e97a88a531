use Rattle.shard_core.proofs.CallDeeds.{deeds_are_told}
use Rattle.shard_core.proofs.laws.deeds_are_told.Goals as goal

pub returns : goal.returns
returns c = deeds_are_told
