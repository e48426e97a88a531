use Rattle.std.proofs.Common.{◌∙◌}
use Rattle.session_serve.proofs.Between.{more-on, out-on}
use Rattle.session_serve.proofs.device_side.tended.Goals as goal

pub give-requires-else-device_side : goal.give-requires-else-device_side
give-requires-else-device_side g c =
    let taken = c.in-Some-take.ensures in
    let before = rw c.requires.same at taken.0 in
    let e = c.round-device_side.ensures in
    rw (taken.1, c.requires.same) (e.ring ∙ before.0, more-on _ _ _ _ _ _ _ _ _ _ _ _ _ _ _ before.1 e.more)

pub returns-in-Closed-clause-out : goal.returns-in-Closed-clause-out
returns-in-Closed-clause-out g c =
    let before = rw c.requires.same at c.in-Some-take.ensures.0 in
    out-on _ _ _ _ _ _ _ _ _ _ _ _ _ _ _ before.1 (c.round-device_side.ensures.closed c.in-Closed.is).1
