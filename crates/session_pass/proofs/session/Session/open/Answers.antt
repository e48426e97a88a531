use Rattle.std.proofs.Common.{ap}
use Rattle.tx_ring.specs.Shown.{driver_ring, driver_view}
use Rattle.command_exec.specs.Passes.{PassView}
use Rattle.session_pass.proofs.Opening.{open_keeps}
use Rattle.session_pass.proofs.session.Session.open.Goals as goal

pub invariant_of-result : goal.invariant_of-result
invariant_of-result g c =
    open_keeps g.P.PoolName.sizes c.args.pass c.of-opened.result.value.seat (driver_ring c.args.driver)
    (driver_view c.args.driver) c.args.number
    c.is_pass.ensures.pass (ap (λ (p : PassView). p.seat) c.of-opened.ensures) c.requires.number c.requires.credits
    c.requires.stage
    c.requires.ring.0 c.requires.ring.1 c.requires.none c.room.ensures.order
