use Rattle.std.proofs.Common.{◌≡◌, ◌+◌, ◌-◌, ◌≤◌, ◌++◌, List, ℕ, length, map}
use Rattle.mtu_frames.specs.Frames.{MtuFrame, cuts_of, framed, frames_of, mtu_frame_bytes}
use Rattle.tx_ring.specs.Jobs.{frame_of}
use Rattle.any_wire.specs.Sends.{PutsText}
use Rattle.device_model.specs.Framing.{text_behind, IsInText}
use Rattle.device_model.specs.Pieces.{PutsEach}
use Rattle.device_model.proofs.Framed.{frames_left}
use Rattle.device_model.proofs.FrameByFrame.{frames_to_put}
use Rattle.device_model.proofs.framing.send_framed.Given as goal

abbrev pub invariant-loop-left : goal.invariant-loop-left
invariant-loop-left g l =
    let reply = frame_of l.fn.job in
    let behind = text_behind g.N.PoolName.sizes reply l.place.segment l.place.offset in record {
      job : l.job ≡ l.fn.job;
      place : IsInText reply.segments l.place.segment l.place.offset;
      left : l.left ≡ length behind;
      few : l.index + l.left ≤ l.bytes;
      sent : (text : List ℕ) × (framed reply.text reply.call l.mtu ≡ text
          ++ frames_left reply.call (length (cuts_of l.mtu reply.text)) l.index (l.mtu - 16) behind)
          × PutsText (g.C.WireCalls.put_may l.calls) l.failed l.has_failed text l.fn.wire l.wire;
      each : (done : List MtuFrame) × (frames_of reply.text reply.call l.mtu ≡ done
          ++ frames_to_put reply.call (length (cuts_of l.mtu reply.text)) l.index (l.mtu - 16) behind)
          × PutsEach (g.C.WireCalls.put_may l.calls) (map mtu_frame_bytes done) l.failed l.has_failed l.fn.wire
          l.wire;
    }

abbrev pub decreases-loop-left : goal.decreases-loop-left
decreases-loop-left g l = l.left
