use Rattle.std.proofs.Common.{sym}
use Rattle.std.proofs.lemmas.Result.{on_ok_weaker, on_err_weaker}
use Rattle.byte_store.proofs.Bytes.{appended_through, kept_through}
use Rattle.byte_store.proofs.table.append.Goals as goal

pub returns-in-Some-clause-ok : goal.returns-in-Some-clause-ok
returns-in-Some-clause-ok c =
    let now = c.extend.new.value in
    on_ok_weaker c.extend.result
    (appended_through c.args.key.now c.args.bytes.now c.args.table.now (c.get_mut.follows.lender now)
    c.in-Some.value.now now (sym c.in-Some.ensures.value) (c.get_mut.follows.holds now)) c.extend.ensures.ok

pub returns-in-Some-clause-err : goal.returns-in-Some-clause-err
returns-in-Some-clause-err c =
    let now = c.extend.new.value in
    on_err_weaker c.extend.result
    (kept_through c.args.key.now c.args.table.now (c.get_mut.follows.lender now) c.in-Some.value.now now
    (sym c.in-Some.ensures.value) (c.get_mut.follows.holds now)) c.extend.ensures.err
