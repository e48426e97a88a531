use Rattle.std.proofs.Common.{◌≡◌, ◌-◌, ◌≤◌, take, drop, vec_len, vec_capacity}
use Rattle.view_sums.specs.Total.{Each}
use Rattle.reply_planner.specs.Owned.{IsStaging, keys_for}
use Rattle.reply_planner.proofs.Kept.{shown}
use Rattle.reply_planner.proofs.stage.Stage.move_least.Given as goal

abbrev pub invariant-loop-self : goal.invariant-loop-self
invariant-loop-self g l = record {
  few : vec_len l.staged ≤ l.count;
  taken : l.staged.items ≡ keys_for (take (vec_len l.staged) l.fn.self);
  left : shown l.self-inside.free.items ≡ drop (vec_len l.staged) l.fn.self;
  moved : Each (IsStaging g.N.PoolName.sizes) l.staged.items;
  staging : Each (IsStaging g.N.PoolName.sizes) l.self-inside.free.items;
  room : 128 ≤ vec_capacity l.self-inside.free;
  capacity : vec_capacity l.staged ≡ vec_capacity l.fn.staged;
}

abbrev pub decreases-loop-self : goal.decreases-loop-self
decreases-loop-self g l = l.count - vec_len l.staged
