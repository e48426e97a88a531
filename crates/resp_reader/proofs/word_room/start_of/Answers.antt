use Rattle.std.proofs.Common.{sym, arith, ◌∙◌}
use Rattle.resp_reader.proofs.Rooms.{start_at, word_start-all}
use Rattle.resp_reader.proofs.word_room.start_of.Goals as goal

pub returns-then-i-spans : goal.returns-then-i-spans
returns-then-i-spans c = sym (start_at 0 c.args.spans.now c.args.i _ (omega arith))

pub returns-else-i-spans : goal.returns-else-i-spans
returns-else-i-spans c = c.next_start.ensures ∙ sym (word_start-all 0 c.args.spans.now c.args.i (omega arith))
