use Rattle.resp_reader.proofs.Rooms.{grows_on}
use Rattle.resp_reader.proofs.parser.Parser.step.Goals as goal

pub returns-clause-grows : goal.returns-clause-grows
returns-clause-grows c = grows_on _ _ _ _ _ _ c.step.ensures.grows c.take_words.ensures.grows
