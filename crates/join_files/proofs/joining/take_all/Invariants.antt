use Rattle.std.proofs.Common.{◌≡◌, ◌+◌, ◌≤◌, length, take, drop}
use Rattle.join_files.specs.Cutting.{file_frames}
use Rattle.join_files.specs.Joined.{TookAll}
use Rattle.join_files.proofs.joining.take_all.Given as goal

abbrev pub invariant-loop-rest : goal.invariant-loop-rest
invariant-loop-rest l = record {
  taken : TookAll l.fn.joiner.mtu l.fn.joiner.calls (take l.number (file_frames l.fn.bytes)) l.joiner.frames;
  behind : drop l.number (file_frames l.fn.bytes) ≡ file_frames l.rest;
  counted : l.number + length l.rest ≤ length l.fn.bytes;
  same : (l.joiner.mtu ≡ l.fn.joiner.mtu) × (l.joiner.calls ≡ l.fn.joiner.calls);
}

abbrev pub decreases-loop-rest : goal.decreases-loop-rest
decreases-loop-rest l = length l.rest
