use Rattle.std.proofs.Common.{subst}
use Rattle.mtu_frames.specs.Joining.{Joining, Misses}
use Rattle.mtu_frames.proofs.joiner.Joiner.missing.Goals as goal

pub returns : goal.returns
returns c = subst (λ (v : Joining). Misses v.frames v.calls c.self.inside.missing) c.self.view_is c.self.invariant.2
