use Rattle.std.proofs.Common.{◌+◌}
use Rattle.session_pass.proofs.Rooms.{reaped_more}
use Rattle.session_pass.proofs.Ending.{finishes_behind}
use Rattle.session_pass.proofs.session.Session.finish.Goals as goal

pub reaps-preserved : goal.reaps-preserved
reaps-preserved g c = (c.reaps.invariant.0 + 1, reaped_more c.reaps.invariant.1 c.in-Some.ensures.one)

pub returns : goal.returns
returns g c = finishes_behind c.close.result c.reaps.invariant.1 c.close.ensures
