use Rattle.resp_reader.proofs.Moves.{length_end_stops}
use Rattle.resp_reader.proofs.begun.length_end.Goals as goal

pub returns-in-None-clause-err : goal.returns-in-None-clause-err
returns-in-None-clause-err c = length_end_stops c.args.count c.args.len c.args.bytes.now c.requires
    c.in-None.ensures.none
