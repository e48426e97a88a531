use Rattle.std.proofs.Common.{◌≡◌, ◌+◌, ◌-◌, ◌/◌, ◌<◌, ◌≤◌, ◌++◌, length, vec_capacity}
use Rattle.reply_layout.specs.Layout.{cut}
use Rattle.reply_planner.specs.Owned.{key_buffers}
use Rattle.reply_planner.specs.Places.{buffer_addresses}
use Rattle.reply_planner.proofs.laying.lay_run.Given as goal

abbrev pub decreases-loop-at : goal.decreases-loop-at
decreases-loop-at g l = l.to - l.at

abbrev pub invariant-loop-at : goal.invariant-loop-at
invariant-loop-at g l = record {
  order : l.at ≤ l.to;
  items : l.segments.items ++ cut (buffer_addresses g.N.PoolName.sizes (key_buffers l.staged)) (l.to - l.at) l.at
      (l.to - l.at)
      ≡ l.fn.segments.items ++ cut (buffer_addresses g.N.PoolName.sizes (key_buffers l.staged)) (l.to - l.from) l.from
      (l.to - l.from);
  count : length l.segments.items + l.from / 512 ≤ length l.fn.segments.items + (l.at + 511) / 512;
  more : l.at < l.to → length l.segments.items + l.from / 512 ≤ length l.fn.segments.items + l.at / 512;
  capacity : vec_capacity l.segments ≡ vec_capacity l.fn.segments;
}
