use Rattle.resp_reader.proofs.Moves.{in_count_stops}
use Rattle.resp_reader.proofs.begun.in_count.Goals as goal

pub returns-in-Err-clause-err : goal.returns-in-Err-clause-err
returns-in-Err-clause-err c = in_count_stops c.args.digits c.args.bytes.now c.in-Err.place c.in-Err.ensures.err
