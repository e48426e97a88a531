use Rattle.std.proofs.Common.{ap, arith}
use Rattle.pinned_pool.specs.declared.view.View.{View}
use Rattle.test_replies.proofs.staging.send_in_turn.Goals as goal

pub close-requires-clause-all : goal.close-requires-clause-all
close-requires-clause-all g c = omega (arith, c.in-Ok.ensures.opened.count, c.in_ok-turns.ensures.stage)

pub close-requires-2 : goal.close-requires-2
close-requires-2 g c =
    omega (
      arith,
      ap (λ (v : View). v.credits) c.name-pool.ensures,
      c.in-Ok.ensures.opened.keeps.credits,
      c.in_ok-turns.ensures.credits,
      c.close.ensures.credits,
    )
