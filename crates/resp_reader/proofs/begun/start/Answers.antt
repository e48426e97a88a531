use Rattle.resp_reader.proofs.Moves.{start_stops}
use Rattle.resp_reader.proofs.begun.start.Goals as goal

pub returns-in-None-clause-err : goal.returns-in-None-clause-err
returns-in-None-clause-err c = start_stops c.args.bytes.now c.requires c.in-None.ensures.none
