use Rattle.std.proofs.Common.{eqb, refl}
use Rattle.mtu_frames.specs.Held.{frames_in}
use Rattle.mtu_frames.proofs.Keeping.{agrees_by, none_differs}
use Rattle.mtu_frames.proofs.held.agrees.Goals as goal

pub returns-in-Some : goal.returns-in-Some
returns-in-Some c =
    agrees_by (frames_in c.args.held.now.entries) c.args.head.call c.in-Some.ensures.0 c.in-Some.ensures.1
    c.in-Some.count c.args.head.count c.requires c.in-Some.ensures.2 c.in-Some.ensures.3
    (eqb c.in-Some.count c.args.head.count) refl

pub returns-in-None : goal.returns-in-None
returns-in-None c = none_differs (frames_in c.args.held.now.entries) c.args.head.call c.args.head.count c.requires
    c.in-None.ensures
