use Rattle.std.proofs.Common.{◌≡◌, length, subst, sym}
use Rattle.tx_ring.specs.Shown.{driver_ring, driver_view}
use Rattle.session_pass.specs.Views.{SessionView}
use Rattle.session_pass.specs.Finished.{IsSessionDone}
use Rattle.session_pass.proofs.Ending.{all_done}
use Rattle.session_pass.proofs.session.Session.close.Goals as goal

pub returns : goal.returns
returns g c =
    let all = subst (λ (s : SessionView). length s.posted ≡ length s.reaped) (sym c.self.view_is) c.requires in
    subst (λ (s : SessionView). IsSessionDone s c.close-seat.result.0 c.close-seat.result.1 c.in-Ok.closed)
    c.self.view_is
    (all_done g.P.PoolName.sizes c.self.inside.pass c.self.inside.opened.value.seat (driver_ring c.self.inside.driver)
    (driver_view c.self.inside.driver) c.self.inside.stopped c.close-seat.result.0 c.close-seat.result.1 c.in-Ok.closed
    c.is_pass.ensures.pass c.is_pass.ensures.seat c.self.invariant.is all c.in-Ok.ensures.closed
    c.close-seat.ensures.seat c.close-seat.ensures.mine)
