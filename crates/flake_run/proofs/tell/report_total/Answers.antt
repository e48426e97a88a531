use Rattle.std.proofs.Common.{inl, inr, false, true, ⊎_elim}
use Rattle.flake_run.proofs.RanDump.{unasked_failed}
use Rattle.flake_run.proofs.tell.report_total.Goals as goal

pub returns-clause-by_end : goal.returns-clause-by_end
returns-clause-by_end g c five six =
    let so = c.status_of.ensures.by_end _ _ c.tell-said.ensures.cause five six in
    (so.0, unasked_failed c.args.ends.now false so.1, so.2)

pub returns-clause-failed : goal.returns-clause-failed
returns-clause-failed g c five =
    let why = c.status_of.ensures.failed _ _ c.tell-said.ensures.cause five in
    (why.0, ⊎_elim (λ is. inl (unasked_failed c.args.ends.now true is)) (λ rose. inr rose) why.1)
