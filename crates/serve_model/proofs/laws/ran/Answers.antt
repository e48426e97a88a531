use Rattle.serve_model.proofs.Ran.{was_run}
use Rattle.serve_model.proofs.laws.ran.Goals as goal

pub returns : goal.returns
returns c books z threshold shards sessions journal store givens endeds ends seats spare last closed as_many parts
    served is =
    was_run books z threshold shards sessions journal store givens endeds ends seats closed as_many parts served last
    spare is
