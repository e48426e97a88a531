use Rattle.std.proofs.Common.{◌≡◌, ◌≤◌, ◌*◌, List, length, take}
use Rattle.any_wire.specs.Sends.{WireStep, Chain}
use Rattle.device_model.specs.Pieces.{AreCutsAt}
use Rattle.reply_layout.specs.Gathered.{read_all}
use Rattle.reply_planner.specs.Places.{reading}
use Rattle.tx_ring.specs.Jobs.{frame_of}
use Rattle.any_wire.specs.Sends.{PutsText}
use Rattle.device_model.proofs.sending.send_frame.Given as goal

abbrev pub invariant-loop-i : goal.invariant-loop-i
invariant-loop-i g l = record {
  job : l.job ≡ l.fn.job;
  sends : PutsText (g.C.WireCalls.put_may l.calls) l.failed l.has_failed
      (read_all (reading g.N.PoolName.sizes (frame_of l.fn.job).holds) (take l.i (frame_of l.fn.job).segments))
      l.fn.wire l.wire;
  bytes : l.bytes ≡ length
      (read_all (reading g.N.PoolName.sizes (frame_of l.fn.job).holds) (take l.i (frame_of l.fn.job).segments));
  few : l.bytes ≤ 4096 * l.i;
  pieces : (steps : List WireStep) × AreCutsAt (reading g.N.PoolName.sizes (frame_of l.fn.job).holds) steps
      (take l.i (frame_of l.fn.job).segments)
      × Chain (g.C.WireCalls.put_may l.calls) (λ w r. ⊥) steps l.failed l.has_failed l.fn.wire l.wire;
}
