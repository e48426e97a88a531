use Rattle.std.proofs.Common.{length}
use Rattle.resp_reader.proofs.Founds.{SoFar}
use Rattle.resp_reader.proofs.word_room.find_words.Given as goal

abbrev pub invariant-loop-rest : goal.invariant-loop-rest
invariant-loop-rest l = SoFar l.count l.behind l.fn.spans.items l.spans.items l.bytes l.rest l.end

abbrev pub decreases-loop-rest : goal.decreases-loop-rest
decreases-loop-rest l = length l.rest
