use Rattle.std.proofs.Common.{[], ◌∷◌, ap, sym, subst, length, length-append, arith}
use Rattle.tx_ring.specs.Words.{EachElement, IsShortSegment}
use Rattle.tx_ring.proofs.Words.{each-append}
use Rattle.test_pool.proofs.rings.frame_of.Goals as goal

pub loop-i-preserved : goal.loop-i-preserved
loop-i-preserved c = let grew = c.in-Ok-push.ensures.ok in (
  subst (EachElement IsShortSegment) (sym grew)
      (each-append IsShortSegment c.loop-i.segs.items (c.segment.result ∷ []) c.loop-i.invariant.0
      (c.segment.ensures, tt)),
  omega (arith, c.loop-i.invariant.1, ap length grew, length-append c.loop-i.segs.items (c.segment.result ∷ [])),
)
