use Rattle.std.proofs.Common.{ap, arith}
use Rattle.reply_layout.specs.declared.need.Need.{Need}
use Rattle.test_store.proofs.calls.tight.use_one.Goals as goal

pub returns-in-Ok : goal.returns-in-Ok
returns-in-Ok g c =
    let e = c.in-Ok.ensures.reply in
    omega (arith, e.credits, e.few, e.in_ring, ap (λ (n : Need). n.descriptors) c.need-need.ensures.need)
