use Rattle.std.proofs.Common.{◌≡◌, ◌≤◌}
use Rattle.std.specs.Slots.{slots_items}
use Rattle.pinned_pool.specs.Ends.{nonzero_in}
use Rattle.pinned_pool.proofs.end.count_held.Given as goal

abbrev pub invariant-loop-k : goal.invariant-loop-k
invariant-loop-k l = (l.held ≡ nonzero_in (slots_items l.closed.words) l.first l.k) × (l.held ≤ l.k)
