use Rattle.resp_reader.proofs.Moves.{in_length_stops}
use Rattle.resp_reader.proofs.begun.in_length.Goals as goal

pub returns-in-Err-clause-err : goal.returns-in-Err-clause-err
returns-in-Err-clause-err c = in_length_stops c.args.count c.args.digits c.args.bytes.now c.in-Err.place
    c.in-Err.ensures.err
