use Rattle.std.proofs.Common.{◌≡◌}
use Rattle.test_store.proofs.stores.world.run_each.Given as goal

abbrev pub invariant-loop-asked : goal.invariant-loop-asked
invariant-loop-asked g l = l.session.seat.credits ≡ l.fn.session.seat.credits
