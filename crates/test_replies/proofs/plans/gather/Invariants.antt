use Rattle.std.proofs.Common.{◌≡◌}
use Rattle.test_replies.proofs.plans.gather.Given as goal

abbrev pub invariant-loop-i : goal.invariant-loop-i
invariant-loop-i g l = l.parcel ≡ l.fn.parcel
