use Rattle.std.proofs.Common.{◌≡◌, ◌+◌, ◌≤◌, ◌++◌, All, length, reverse}
use Rattle.run_resources.specs.Passing.{IsNewList}
use Rattle.run_resources.proofs.passing.turned.Given as goal

abbrev pub invariant-loop-mine : goal.invariant-loop-mine
invariant-loop-mine g l = record {
  lists : l.lists.items ++ reverse l.turned.items ≡ l.fn.lists.items;
  new : All IsNewList l.lists.items;
  turned : All IsNewList l.turned.items;
  count : length l.lists.items + length l.turned.items ≡ length l.fn.lists.items;
  room : length l.lists.items ≤ l.turned.spare;
}

abbrev pub decreases-loop-mine : goal.decreases-loop-mine
decreases-loop-mine g l = length l.lists.items
