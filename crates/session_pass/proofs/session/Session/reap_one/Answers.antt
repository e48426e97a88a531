use Rattle.std.proofs.Common.{subst}
use Rattle.tx_ring.specs.Shown.{driver_ring, driver_view}
use Rattle.session_pass.specs.Views.{SessionView, whole_view}
use Rattle.session_pass.specs.Calls.{ReapsOne}
use Rattle.session_pass.proofs.Reaping.{reap_keeps, reaps_one}
use Rattle.session_pass.proofs.session.Session.reap_one.Goals as goal

pub invariant_of-self-2 : goal.invariant_of-self-2
invariant_of-self-2 g c =
    reap_keeps g.P.PoolName.sizes c.in-Some.parcel c.give_back-recycled.result c.self.inside.pass
    c.give_back-recycled.new.self
    c.self.inside.opened.value.seat (driver_ring c.self.inside.driver) (driver_ring c.reap.new.self)
    (driver_view c.self.inside.driver) (driver_view c.reap.new.self) c.self.inside.stopped
    c.self.inside.calls c.self.inside.number
    c.is_pass.ensures.pass c.in-Some.ensures.ring c.in-Some.ensures.found c.give_back-recycled.ensures.seat
    c.give_back-recycled.ensures.pass c.self.invariant

pub returns-clause-one : goal.returns-clause-one
returns-clause-one g c =
    let s' = whole_view c.give_back-recycled.new.self c.self.inside.opened.value.seat (driver_ring c.reap.new.self)
    (driver_view c.reap.new.self) c.self.inside.stopped in
    subst (λ (s : SessionView). ReapsOne s s' c.call-call.result c.give_back-recycled.result) c.self.view_is
    (reaps_one c.in-Some.parcel c.give_back-recycled.result c.self.inside.pass c.give_back-recycled.new.self
    c.self.inside.opened.value.seat (driver_ring c.self.inside.driver) (driver_ring c.reap.new.self)
    (driver_view c.self.inside.driver) (driver_view c.reap.new.self) c.self.inside.stopped c.call-call.result
    c.in-Some.ensures.ring c.in-Some.ensures.found c.give_back-recycled.ensures.seat c.give_back-recycled.ensures.pass
    c.call-call.ensures)
