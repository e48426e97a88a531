use Rattle.std.proofs.Common.{◌≡◌}
use Rattle.test_replies.proofs.acting.act_all.Given as goal

abbrev pub invariant-loop-act : goal.invariant-loop-act
invariant-loop-act g l = l.near.session.opened ≡ l.fn.near.session.opened
