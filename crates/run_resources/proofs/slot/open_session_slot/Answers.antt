use Rattle.std.proofs.Common.{ap, ◌∙◌}
use Rattle.tx_ring.specs.Shown.{ring_size, device_ring, device_view}
use Rattle.session_pass.specs.Views.{SessionView}
use Rattle.run_resources.proofs.SessionSlots.{slot}
use Rattle.run_resources.proofs.slot.open_session_slot.Goals as goal

pub returns-clause-slot : goal.returns-clause-slot
returns-clause-slot g c =
    slot g.P.PoolName.sizes c.args.pass _ c.in-Ok.driver c.open-device.result.end c.open-device.result.failed
    c.requires.pass.0 c.open-session.ensures c.in-Ok.ensures.driver
    (ap device_ring c.open-device.ensures.0 ∙ c.in-Ok.ensures.ring.0)
    (ap device_view c.open-device.ensures.0 ∙ c.in-Ok.ensures.device.0) c.open-device.ensures.1

pub returns-clause-ring : goal.returns-clause-ring
returns-clause-ring g c =
    ap (λ (s : SessionView). ring_size s.ring) c.open-session.ensures ∙ c.in-Ok.ensures.ring.1
