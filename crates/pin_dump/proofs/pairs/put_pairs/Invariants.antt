use Rattle.std.proofs.Common.{◌≡◌, take}
use Rattle.dump_model.specs.Dump.{pairs_text}
use Rattle.any_wire.specs.Sends.{PutsText}
use Rattle.frag_value.specs.Pins.{pairs_shown}
use Rattle.pin_dump.proofs.pairs.put_pairs.Given as goal

abbrev pub invariant-loop-i : goal.invariant-loop-i
invariant-loop-i g l = record {
  seat : l.seat ≡ l.fn.seat;
  puts : PutsText (g.C.WireCalls.put_may l.calls) l.failed l.has_failed
      (pairs_text (pairs_shown l.fn.seat.holds (take l.i l.pairs))) l.fn.wire l.wire;
}
