use Rattle.std.proofs.Common.{sym}
use Rattle.resp_reader.proofs.Rooms.{last_of}
use Rattle.resp_reader.proofs.word_room.next_start.Goals as goal

pub returns-in-Some : goal.returns-in-Some
returns-in-Some c = last_of c.args.spans.now c.in-Some.span.now (sym c.in-Some.ensures.value)
