use Rattle.std.proofs.Common.{refl, ◌∙◌}
use Rattle.session_serve.proofs.Between.{more-none, more-on, out-on}
use Rattle.session_serve.proofs.device_side.DeviceSide.forward_all.Goals as goal

pub loop-init : goal.loop-init
loop-init g c = record { ring = refl; more = more-none _ _ _ _ _ _ _ }

pub loop-preserved-in-Idle : goal.loop-preserved-in-Idle
loop-preserved-in-Idle g c =
    let e = c.round-after.ensures in
    record {
      ring = e.ring ∙ c.loop.invariant.ring;
      more = more-on _ _ _ _ _ _ _ _ _ _ _ _ _ _ _ c.loop.invariant.more e.more;
    }

pub loop-preserved : goal.loop-preserved
loop-preserved g c =
    let e = c.round-after.ensures in
    record {
      ring = e.ring ∙ c.loop.invariant.ring;
      more = more-on _ _ _ _ _ _ _ _ _ _ _ _ _ _ _ c.loop.invariant.more e.more;
    }

pub returns-in-Closed-clause-out : goal.returns-in-Closed-clause-out
returns-in-Closed-clause-out g c =
    out-on _ _ _ _ _ _ _ _ _ _ _ _ _ _ _ c.loop.invariant.more (c.round-after.ensures.closed c.in-Closed.is).1
