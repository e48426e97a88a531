use Rattle.shard_core.proofs.Growing.{parts_add}
use Rattle.shard_core.proofs.laws.parts_add.Goals as goal

pub returns : goal.returns
returns c = parts_add
