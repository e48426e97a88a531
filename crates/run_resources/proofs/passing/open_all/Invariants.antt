use Rattle.std.proofs.Common.{◌≡◌, ◌+◌, ◌*◌, ◌≤◌, ◌++◌, All, length, map, reverse, vec_capacity}
use Rattle.reply_planner.specs.Stages.{StagesAreApart}
use Rattle.serve_model.specs.Seats.{IsSpare}
use Rattle.run_resources.specs.Opened.{session_credits, IsNewPass}
use Rattle.run_resources.specs.Passing.{IsNewList}
use Rattle.run_resources.proofs.passing.open_all.Given as goal

abbrev pub invariant-loop-mine : goal.invariant-loop-mine
invariant-loop-mine g l = record {
  lists : map (λ p. p.list) l.passes.items ++ reverse l.lists.items ≡ reverse l.fn.lists.items;
  new : All IsNewList l.lists.items;
  passes : All (λ p. IsNewPass g.P.PoolName.sizes p × (p.threshold ≡ l.threshold)) l.passes.items;
  apart : StagesAreApart (map (λ p. p.stage) l.passes.items);
  main : IsSpare l.main;
  credits : l.main.credits + session_credits * length l.passes.items ≡ l.fn.main.credits;
  count : length l.lists.items + length l.passes.items ≡ length l.fn.lists.items;
  room : length l.fn.lists.items ≤ vec_capacity l.passes;
}

abbrev pub decreases-loop-mine : goal.decreases-loop-mine
decreases-loop-mine g l = length l.lists.items
