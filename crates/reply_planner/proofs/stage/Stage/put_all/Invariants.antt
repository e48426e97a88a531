use Rattle.std.proofs.Common.{◌≡◌, ◌+◌, ◌≤◌, length}
use Rattle.view_sums.specs.Total.{Each}
use Rattle.reply_planner.specs.Owned.{IsStaging, key_buffers}
use Rattle.reply_planner.specs.Stages.{stage_size, merged}
use Rattle.reply_planner.proofs.stage.Stage.put_all.Given as goal

abbrev pub decreases-loop-hold : goal.decreases-loop-hold
decreases-loop-hold g l = length l.holds.items

abbrev pub invariant-loop-hold : goal.invariant-loop-hold
invariant-loop-hold g l = record {
  staging : Each (IsStaging g.N.PoolName.sizes) l.holds.items;
  merged_so_far : merged (key_buffers l.fn.holds.items) l.fn.self ≡ merged (key_buffers l.holds.items) l.self;
  room : length l.self + length l.holds.items ≤ stage_size;
}
