use Rattle.resp_reader.proofs.Moves.{count_end_stops}
use Rattle.resp_reader.proofs.begun.count_end.Goals as goal

pub returns-in_default-clause-err : goal.returns-in_default-clause-err
returns-in_default-clause-err c = count_end_stops c.args.digits c.args.bytes.now c.requires c.in_default.ensures.none
