use Rattle.std.proofs.Common.{◌≡◌, take}
use Rattle.frag_value.specs.Values.{value_bytes}
use Rattle.any_wire.specs.Sends.{PutsText}
use Rattle.pin_dump.proofs.values.put_value.Given as goal

abbrev pub invariant-loop-i : goal.invariant-loop-i
invariant-loop-i g l = record {
  seat : l.seat ≡ l.fn.seat;
  puts : PutsText (g.C.WireCalls.put_may l.calls) l.failed l.has_failed (value_bytes l.fn.seat.holds (take l.i
      l.value)) l.fn.wire l.wire;
}
