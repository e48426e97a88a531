use Rattle.std.proofs.Common.{ℕ, ◌-◌, ◌≤◌, false}
use Rattle.mtu_frames.specs.Joining.{frame_at, frame_count, pieces_joined}
use Rattle.mtu_frames.specs.Held.{frames_in}
use Rattle.mtu_frames.specs.Puts.{WasPut}
use Rattle.mtu_frames.proofs.joiner.put_reply.Given as goal

abbrev pub invariant-loop-cut : goal.invariant-loop-cut
invariant-loop-cut g l =
    (l.index ≤ frame_count (frame_at (frames_in l.held.entries) l.call 0))
    × WasPut false (pieces_joined (frames_in l.held.entries) l.call l.index)
    ((g.dyn-1.0.entry l.initial.wire.now.0).1.wire_told l.initial.wire.now.1)
    ((g.dyn-1.0.entry l.wire.now.0).1.wire_told l.wire.now.1)

abbrev pub decreases-loop-cut : goal.decreases-loop-cut
decreases-loop-cut g l = frame_count (frame_at (frames_in l.held.entries) l.call 0) - l.index
