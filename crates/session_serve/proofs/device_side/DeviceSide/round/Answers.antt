use Rattle.std.proofs.Common.{refl, ◌∙◌}
use Rattle.session_serve.proofs.Between.{more-none, more-on}
use Rattle.session_serve.proofs.device_side.DeviceSide.round.Goals.{else-loop-test, then-loop-test+in-Empty}
use Rattle.session_serve.proofs.device_side.DeviceSide.round.Goals as goal

pub loop-init : goal.loop-init
loop-init g c = record { ring = refl; more = more-none _ _ _ _ _ _ _; unclosed = λ is. absurd (cc) }

pub loop-preserved : goal.loop-preserved
loop-preserved g c =
    let e = c.gathered-after.ensures in
    record {
      ring = e.ring ∙ c.loop.invariant.ring;
      more = more-on _ _ _ _ _ _ _ _ _ _ _ _ _ _ _ c.loop.invariant.more e.more;
      unclosed = λ is. absurd (cc);
    }

pub returns-in-Closed-clause-more : goal.returns-in-Closed-clause-more
returns-in-Closed-clause-more g c = more-on _ _ _ _ _ _ _ _ _ _ _ _ _ _ _ c.loop.invariant.more
    c.gathered-after.ensures.more

pub returns-clause-more : goal.returns-clause-more
returns-clause-more g c =
    elim c.loop-test.branch [
      | else-loop-test w ↦ rw (w.device-is, w.wire-is, w.sent-is) c.loop.invariant.more
      | then-loop-test+in-Empty w ↦ rw (w.device-is, w.wire-is, w.sent-is)
          (more-on _ _ _ _ _ _ _ _ _ _ _ _ _ _ _ c.loop.invariant.more w.gathered-after.ensures.more)
    ]
