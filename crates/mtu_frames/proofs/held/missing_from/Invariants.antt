use Rattle.std.proofs.Common.{ℕ, ◌+◌, ◌-◌, ◌*◌, ◌^◌, ◌≤◌}
use Rattle.mtu_frames.specs.Held.{frames_in}
use Rattle.mtu_frames.specs.Kept.{AreBefore}
use Rattle.mtu_frames.proofs.held.missing_from.Given as goal

abbrev pub invariant-loop-call : goal.invariant-loop-call
invariant-loop-call l = (l.call ≤ l.calls) × AreBefore (frames_in l.held.entries) l.call l.frame

abbrev pub decreases-loop-call : goal.decreases-loop-call
decreases-loop-call l = (l.calls - l.call) * 2 ^ 32 + (2 ^ 32 - l.frame)
