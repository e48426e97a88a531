use Rattle.flake_run.proofs.Highest.{highest_step, highest_is}
use Rattle.flake_run.specs.Causes.{highest_by}
use Rattle.flake_run.specs.Outcome.{ways}
use Rattle.flake_run.proofs.Highest.{IsHighest}
use Rattle.std.proofs.Common.{take, ap, sym, subst, ◌∙◌, ◌≡◌, arith}
use Rattle.std.proofs.lemmas.List.{take_all}
use Rattle.flake_run.proofs.tell.status_by_ends.Goals as goal

pub loop-end-preserved : goal.loop-end-preserved
loop-end-preserved c = highest_step c.args.ends.now c.loop-end.end-index _ _ _ _ c.loop-end.invariant
    c.status_by_end.ensures c.max-status.ensures c.loop-end-test.true

pub returns-clause-statuses : goal.returns-clause-statuses
returns-clause-statuses c =
    let all : take c.loop-end.end-index c.args.ends.now ≡ c.args.ends.now =
    take_all c.loop-end.end-index c.args.ends.now (omega arith) in
    subst IsHighest (sym (c.loop-end.invariant ∙ ap (λ es. highest_by (ways es)) all))
    (highest_is (ways c.args.ends.now))
