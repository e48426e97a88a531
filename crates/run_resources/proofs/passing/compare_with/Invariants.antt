use Rattle.std.proofs.Common.{◌≡◌, All, take, vec_capacity}
use Rattle.reply_planner.specs.Stages.{NoneInBoth}
use Rattle.run_resources.specs.Opened.{IsNewPass}
use Rattle.run_resources.proofs.passing.compare_with.Given as goal

abbrev pub invariant-loop-i : goal.invariant-loop-i
invariant-loop-i g l = record {
  new : IsNewPass g.P.PoolName.sizes l.pass;
  stage : l.pass.stage ≡ l.fn.pass.stage;
  list : l.pass.list ≡ l.fn.pass.list;
  threshold : l.pass.threshold ≡ l.fn.pass.threshold;
  others : l.others.items ≡ l.fn.others.items;
  capacity : vec_capacity l.others ≡ vec_capacity l.fn.others;
  apart : All (λ p. NoneInBoth l.fn.pass.stage p.stage) (take l.i l.fn.others.items);
}
