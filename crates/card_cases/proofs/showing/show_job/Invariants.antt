use Rattle.std.proofs.Common.{◌≡◌}
use Rattle.card_cases.proofs.showing.show_job.Given as goal

abbrev pub invariant-loop-i : goal.invariant-loop-i
invariant-loop-i g l = l.job ≡ l.fn.job
