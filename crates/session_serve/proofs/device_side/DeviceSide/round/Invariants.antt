use Rattle.std.proofs.Common.{◌≡◌}
use Rattle.tx_ring.specs.Shown.{device_ring, completed}
use Rattle.session_serve.specs.Beside.{ForwardsMore}
use Rattle.session_serve.specs.declared.device_side.Round.TheVariants.{Closed}
use Rattle.session_serve.proofs.device_side.DeviceSide.round.Given as goal

abbrev pub invariant-loop : goal.invariant-loop
invariant-loop g l = record {
  ring : device_ring l.device.end ≡ device_ring l.fn.self.device.end;
  more : ForwardsMore l.wiring.mtu (g.C.WireCalls.put_may l.wiring.calls.now)
      (g.C.WireCalls.flush_may l.wiring.calls.now) l.fn.self.device.failed
      l.device.failed
      (completed l.fn.self.device.end) (completed l.device.end) l.fn.self.sent l.sent l.fn.self.wire l.wire;
  unclosed : l.round ≡ Closed → ⊥;
}
