use Rattle.std.proofs.Common.{◌≡◌}
use Rattle.test_store.proofs.calls.replies.run_all.Given as goal

abbrev pub invariant-loop-command : goal.invariant-loop-command
invariant-loop-command g l = l.pass.seat.credits ≡ l.fn.pass.seat.credits
