use Rattle.std.proofs.Common.{length}
use Rattle.frag_value.proofs.Returned.{ReturnedSoFar}
use Rattle.frag_value.proofs.unpinning.unpin_all.Given as goal

abbrev pub decreases-loop-frag : goal.decreases-loop-frag
decreases-loop-frag g l = length l.value

abbrev pub invariant-loop-frag : goal.invariant-loop-frag
invariant-loop-frag g l = ReturnedSoFar l.fn.value l.value l.lasts l.fn.seat l.seat
