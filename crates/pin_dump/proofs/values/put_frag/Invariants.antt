use Rattle.std.proofs.Common.{◌≡◌, ◌-◌, ◌≤◌, take}
use Rattle.pinned_pool.specs.Bytes.{bytes_of_words}
use Rattle.pinned_pool.specs.Moves.{front_of}
use Rattle.any_wire.specs.Sends.{PutsText}
use Rattle.pin_dump.proofs.values.put_frag.Given as goal

abbrev pub decreases-loop-done : goal.decreases-loop-done
decreases-loop-done g l = l.len - l.done

abbrev pub invariant-loop-done : goal.invariant-loop-done
invariant-loop-done g l = record {
  seat : l.seat ≡ l.fn.seat;
  within : l.done ≤ l.len;
  puts : PutsText (g.C.WireCalls.put_may l.calls) l.failed l.has_failed (take l.done (bytes_of_words (front_of
      l.buffer l.fn.seat.holds))) l.fn.wire l.wire;
}
