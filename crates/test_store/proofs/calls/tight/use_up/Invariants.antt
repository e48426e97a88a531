use Rattle.std.proofs.Common.{◌+◌, ◌*◌, ◌≤◌}
use Rattle.test_store.proofs.calls.tight.use_up.Given as goal

abbrev pub invariant-loop : goal.invariant-loop
invariant-loop g l = l.fn.pass.seat.credits ≤ l.pass.seat.credits + 2 * l.counter
