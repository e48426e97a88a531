use Rattle.std.proofs.Common.{sym, subst}
use Rattle.std.proofs.lemmas.Result.{err_from_is_err_and}
use Rattle.flake_base.specs.Histories.{histories}
use Rattle.flake_model.specs.Journal.{answers_of}
use Rattle.replay_check.specs.Inputs.{contents, AreInputs}
use Rattle.replay_check.specs.Noted.{AreNoted}
use Rattle.replay_check.specs.Places.{told}
use Rattle.replay_check.proofs.Whole.{refusal_by, are_answers}
use Rattle.replay_check.proofs.answering.answers.Goals as goal

pub returns-in_err-replay-clause-err : goal.returns-in_err-replay-clause-err
returns-in_err-replay-clause-err c =
    let inputs = contents c.args.inputs.now.items in
    let journal = histories c.args.journal.now.items in
    let sessions = told c.as_slice-sessions.result.now in
    let are = subst (λ s. AreInputs inputs (told s)) (sym c.as_slice-sessions.ensures.value)
    c.in_ok-sessions.ensures.inputs in
    let p = err_from_is_err_and c.from_residual-in_err-replay.result c.from_residual-in_err-replay.ensures.1 in
    rw (p.1, p.2) (refusal_by inputs journal sessions c.in_err-replay.field-0.0 are c.in_err-replay.ensures.fault)

pub returns-clause-ok : goal.returns-clause-ok
returns-clause-ok c =
    let inputs = contents c.args.inputs.now.items in
    let journal = histories c.args.journal.now.items in
    let sessions = told c.as_slice-sessions.result.now in
    let are = subst (λ s. AreInputs inputs (told s)) (sym c.as_slice-sessions.ensures.value)
    c.in_ok-sessions.ensures.inputs in
    are_answers inputs journal sessions (contents c.in_ok-texts.texts.items) are c.in_ok-replay.ensures.in_order
    (c.in_ok-texts.ensures (answers_of sessions journal)
    (subst (AreNoted sessions (answers_of sessions journal)) (sym c.as_slice.ensures.value)
    c.in_ok-replay.ensures.noted))
