use Rattle.std.proofs.Common.{◌≡◌, ◌-◌, ◌≤◌, ◌++◌, false, take, drop}
use Rattle.tx_ring.specs.Jobs.{frame_of}
use Rattle.any_wire.specs.Sends.{PutsText}
use Rattle.device_model.specs.Framing.{text_behind, IsInText}
use Rattle.device_model.proofs.framing.send_cut.Given as goal

abbrev pub invariant-loop-done : goal.invariant-loop-done
invariant-loop-done g l =
    let reply = frame_of l.fn.job in
    let behind = text_behind g.N.PoolName.sizes reply l.fn.place.segment l.fn.place.offset in record {
      within : l.done ≤ l.len;
      job : l.job ≡ l.fn.job;
      place : IsInText reply.segments l.place.segment l.place.offset;
      rest : text_behind g.N.PoolName.sizes reply l.place.segment l.place.offset ≡ drop l.done behind;
      sends : PutsText (g.C.WireCalls.put_may l.calls) false l.has_failed
          (take 16 l.fn.room ++ take l.done behind) l.fn.wire l.wire;
    }

abbrev pub decreases-loop-done : goal.decreases-loop-done
decreases-loop-done g l = l.len - l.done
