use Rattle.std.proofs.Common.{◌≡◌, ◌<◌, ◌++◌, ◌∙◌, sym, ap, length, take, get_or, subst}
use Rattle.std.proofs.lemmas.List.{take-append-drop}
use Rattle.std.proofs.lemmas.Result.{err_from_is_err_and}
use Rattle.resp_reader.specs.Head.{digits_text, NoLine}
use Rattle.resp_reader.proofs.Heads.{fault_in_front, fault_at, no_number_yet, byte_is}
use Rattle.resp_reader.proofs.head.line.Goals as goal

pub returns-in_err-digits-2-clause-err : goal.returns-in_err-digits-2-clause-err
returns-in_err-digits-2-clause-err c =
    let p = err_from_is_err_and c.from_residual-in_err-digits-2.result c.from_residual-in_err-digits-2.ensures.1 in
    let halves : c.args.bytes.now ≡ c.split_at.result.0.now ++ c.split_at.result.1.now =
    sym (take-append-drop c.in-Some.end c.args.bytes.now) ∙ cc in
    rw (p.1, p.2) (fault_in_front c.args.head c.args.digits c.args.bytes.now c.split_at.result.0.now
    c.split_at.result.1.now _ halves c.in_err-digits-2.ensures.err)

pub returns-in-Nothing-clause-err : goal.returns-in-Nothing-clause-err
returns-in-Nothing-clause-err c =
    let below : c.in-Some.end < length c.args.bytes.now = c.in-Some.ensures.0.high in
    let is : get_or c.args.bytes.now c.in-Some.end 0 ≡ 13 = byte_is _ _ c.in-Some.ensures.1 in
    let now : digits_text c.in_ok-digits-2.digits ≡ digits_text c.args.digits ++ take c.in-Some.end c.args.bytes.now =
    c.in_ok-digits-2.ensures.ok ∙ ap (λ b. digits_text c.args.digits ++ b) c.split_at.ensures.front in
    fault_at c.args.head c.args.digits c.in_ok-digits-2.digits c.args.bytes.now c.in-Some.end
    c.in_ok-digits-2.ensures.allowed below now
    (subst (λ byte. NoLine c.args.head (digits_text c.in_ok-digits-2.digits) byte) (sym is)
    (no_number_yet c.args.head c.in_ok-digits-2.digits c.in_ok-digits-2.ensures.allowed c.in-Nothing.is))
