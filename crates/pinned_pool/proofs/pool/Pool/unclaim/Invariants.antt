use Rattle.std.proofs.Common.{◌≡◌, List, length}
use Rattle.view_sums.specs.Total.{Each}
use Rattle.pin_core.specs.Holding.{Holding, Key}
use Rattle.pinned_pool.specs.Moves.{loose_key}
use Rattle.pinned_pool.specs.Claimed.{with_claimed, GivesBack}
use Rattle.pinned_pool.proofs.pool.Pool.unclaim.Given as goal

abbrev pub decreases-loop-hold : goal.decreases-loop-hold
decreases-loop-hold g l = length l.holds.items

abbrev pub invariant-loop-hold : goal.invariant-loop-hold
invariant-loop-hold g l = record {
  loose : Each (λ (k : Key). k ≡ loose_key k.buffer) l.holds.items;
  some : (hs : List Holding) × (l.seat.holds ≡ with_claimed l.holds.items hs);
  all : (hs : List Holding) → l.fn.seat.holds ≡ with_claimed l.fn.holds.items hs → l.seat.holds
      ≡ with_claimed l.holds.items hs;
  same : GivesBack l.fn.seat l.seat;
}
