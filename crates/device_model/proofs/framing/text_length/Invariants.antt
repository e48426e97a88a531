use Rattle.std.proofs.Common.{◌≡◌, ◌≤◌, ◌*◌, length, take}
use Rattle.reply_layout.specs.Gathered.{read_all}
use Rattle.reply_planner.specs.Places.{reading}
use Rattle.tx_ring.specs.Jobs.{frame_of}
use Rattle.device_model.proofs.framing.text_length.Given as goal

abbrev pub invariant-loop-i : goal.invariant-loop-i
invariant-loop-i g l = record {
  bytes : l.bytes ≡ length (read_all (reading g.N.PoolName.sizes (frame_of l.fn.job).holds)
      (take l.i (frame_of l.fn.job).segments));
  few : l.bytes ≤ 4096 * l.i;
}
