use Rattle.std.proofs.Common.{ap, arith}
use Rattle.pinned_pool.specs.declared.view.View.{View}
use Rattle.test_pool.proofs.values.hand_to_copier.Goals.{then-over, else-over}
use Rattle.test_pool.proofs.values.hand_to_copier.Goals as goal

pub close-requires : goal.close-requires
close-requires g c = elim c.if-over.branch [
  | then-over w ↦ omega (
    arith,
    ap (λ (v : View). v.credits) w.seat-is,
    w.hand_over.ensures.owner.credits,
    c.in-Ok.ensures.written.keeps.credits,
    ap (λ (v : View). v.credits) c.name-pool.ensures,
  )
  | else-over w ↦ omega (
    arith,
    ap (λ (v : View). v.credits) w.seat-is,
    ap (λ (v : View). v.credits) w.hand.ensures.owner,
    c.in-Ok.ensures.written.keeps.credits,
    ap (λ (v : View). v.credits) c.name-pool.ensures,
  )
]
