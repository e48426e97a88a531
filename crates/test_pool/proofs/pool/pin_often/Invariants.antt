use Rattle.std.proofs.Common.{◌≡◌, ◌<◌, []}
use Rattle.pinned_pool.specs.Moves.{meant_count}
use Rattle.test_pool.proofs.pool.pin_often.Given as goal

abbrev pub invariant-loop : goal.invariant-loop
invariant-loop g l = record {
  held : 0 < meant_count l.hold l.owner.holds;
  none : l.taker.holds ≡ [];
  taker : l.taker.credits ≡ l.initial.taker.credits;
  owner : l.owner.credits ≡ l.initial.owner.credits;
}
