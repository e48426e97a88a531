use Rattle.std.proofs.Common.{◌∙◌}
use Rattle.session_serve.proofs.Between.{more-on}
use Rattle.session_serve.proofs.lending.relieve.Goals as goal

pub give-requires : goal.give-requires
give-requires g c =
    let taken = c.in-Some.ensures in
    let before = rw c.requires.same at taken.0 in
    let e = c.round-device_side.ensures in
    rw (taken.1, c.requires.same) (e.ring ∙ before.0, more-on _ _ _ _ _ _ _ _ _ _ _ _ _ _ _ before.1 e.more)
