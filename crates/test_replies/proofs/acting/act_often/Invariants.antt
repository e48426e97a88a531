use Rattle.std.proofs.Common.{◌≡◌}
use Rattle.test_replies.proofs.acting.act_often.Given as goal

abbrev pub invariant-loop : goal.invariant-loop
invariant-loop g l = l.near.session.opened ≡ l.fn.near.session.opened
