use Rattle.serve_model.proofs.Ran.{was_served}
use Rattle.serve_model.proofs.laws.served.Goals as goal

pub returns : goal.returns
returns c books z threshold shards sessions journal store givens endeds ends seats closed as_many parts served =
    was_served books z threshold shards sessions journal store givens endeds ends seats closed as_many parts served
