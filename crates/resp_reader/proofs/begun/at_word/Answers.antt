use Rattle.resp_reader.proofs.Moves.{at_word_stops}
use Rattle.resp_reader.proofs.begun.at_word.Goals as goal

pub returns-in-None-clause-err : goal.returns-in-None-clause-err
returns-in-None-clause-err c = at_word_stops c.args.count c.args.bytes.now c.requires c.in-None.ensures.none
