use Rattle.std.proofs.Common.{◌-◌, ◌≤◌, length, take}
use Rattle.any_wire.specs.Sends.{PutsText}
use Rattle.pin_dump.proofs.putting.put_bytes.Given as goal

abbrev pub decreases-loop-done : goal.decreases-loop-done
decreases-loop-done g l = length l.bytes - l.done

abbrev pub invariant-loop-done : goal.invariant-loop-done
invariant-loop-done g l = record {
  within : l.done ≤ length l.bytes;
  puts : PutsText (g.C.WireCalls.put_may l.calls) l.failed l.has_failed (take l.done l.bytes) l.fn.wire l.wire;
}
