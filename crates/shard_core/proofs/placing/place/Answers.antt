use Rattle.std.proofs.Common.{◌∙◌}
use Rattle.shard_core.proofs.Changed.{missing_key}
use Rattle.shard_core.proofs.placing.place.Goals as goal

pub place_first-requires-clause-missing : goal.place_first-requires-clause-missing
place_first-requires-clause-missing g c = missing_key c.args.key.now c.args.kept.now.values.entries
    (c.requires.found ∙ c.in-None.is)
