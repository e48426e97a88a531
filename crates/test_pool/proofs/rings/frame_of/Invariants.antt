use Rattle.std.proofs.Common.{◌≡◌, length}
use Rattle.tx_ring.specs.Words.{EachElement, IsShortSegment}
use Rattle.test_pool.proofs.rings.frame_of.Given as goal

abbrev pub invariant-loop-i : goal.invariant-loop-i
invariant-loop-i l = EachElement IsShortSegment l.segs.items × (length l.segs.items ≡ l.i)
