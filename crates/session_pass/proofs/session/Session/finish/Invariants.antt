use Rattle.std.proofs.Common.{ℕ, ◌-◌, length}
use Rattle.session_pass.specs.Refused.{HasReaped}
use Rattle.session_pass.proofs.session.Session.finish.Given as goal

abbrev pub invariant-reaps : goal.invariant-reaps
invariant-reaps g l = (n : ℕ) × HasReaped n l.initial.session l.session

abbrev pub decreases-reaps : goal.decreases-reaps
decreases-reaps g l = length l.session.posted - length l.session.reaped
