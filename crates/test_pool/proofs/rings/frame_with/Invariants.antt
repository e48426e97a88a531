use Rattle.std.proofs.Common.{◌≡◌, take}
use Rattle.test_pool.proofs.rings.frame_with.Given as goal

abbrev pub invariant-loop-part : goal.invariant-loop-part
invariant-loop-part l = l.segs.items ≡ take l.part-index l.parts
