use Rattle.std.proofs.Common.{◌∙◌, sym, length}
use Rattle.resp_reader.proofs.Rooms.{word_at, span_at}
use Rattle.resp_reader.proofs.word_room.word_of.Goals as goal

pub part-requires-clause-ordered : goal.part-requires-clause-ordered
part-requires-clause-ordered c =
    (span_at 0 c.args.spans.now (length c.args.bytes.now) c.args.i _ c.requires.spans c.requires.below).0

pub part-requires-clause-within : goal.part-requires-clause-within
part-requires-clause-within c =
    (span_at 0 c.args.spans.now (length c.args.bytes.now) c.args.i _ c.requires.spans c.requires.below).1

pub returns : goal.returns
returns c = c.part.ensures ∙ sym (word_at c.args.spans.now c.args.bytes.now c.args.i _ c.requires.below)
