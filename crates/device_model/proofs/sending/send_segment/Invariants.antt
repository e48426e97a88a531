use Rattle.std.proofs.Common.{◌-◌, ◌*◌, ◌≡◌, ◌≤◌, ℕ, List, ◌⊎◌}
use Rattle.any_wire.specs.Sends.{WireStep, Chain}
use Rattle.device_model.specs.Pieces.{AreCuts}
use Rattle.reply_planner.specs.Places.{buffer_bytes}
use Rattle.any_wire.specs.Sends.{PutsText}
use Rattle.device_model.proofs.sending.send_segment.Given as goal

abbrev pub invariant-loop-done : goal.invariant-loop-done
invariant-loop-done g l = record {
  within : l.done ≤ l.segment.len;
  parcel : l.parcel ≡ l.fn.parcel;
  sends : PutsText (g.C.WireCalls.put_may l.calls) l.failed l.has_failed
      (buffer_bytes l.fn.parcel.holds l.buffer l.from l.done) l.fn.wire l.wire;
  pieces : (steps : List WireStep) × AreCuts steps (buffer_bytes l.fn.parcel.holds l.buffer l.from l.done)
      × Chain (g.C.WireCalls.put_may l.calls) (λ w r. ⊥) steps l.failed l.has_failed l.fn.wire l.wire;
  whole : (l.done ≡ l.segment.len) ⊎ ((k : ℕ) × (l.done ≡ 512 * k));
}

abbrev pub decreases-loop-done : goal.decreases-loop-done
decreases-loop-done g l = l.segment.len - l.done
