use Rattle.std.proofs.Common.{◌-◌, [], take, subst, arith}
use Rattle.std.proofs.lemmas.Result.{err_from_is_err_and}
use Rattle.flake_model.specs.Resp.{judged_bytes}
use Rattle.resp_reader.specs.Parser.{TakesTo}
use Rattle.resp_reader.specs.Errors.{HasError}
use Rattle.resp_reader.proofs.Fed.{fed_on, failed_on, error_on, too_long_on}
use Rattle.resp_reader.proofs.parser.Parser.feed.Goals as goal

pub returns-then-piece-left-clause-ok : goal.returns-then-piece-left-clause-ok
returns-then-piece-left-clause-ok c = fed_on c.judge.result c.args.self.now c.judge.new.self c.args.piece.now c.requires
    (omega (arith, c.requires.judged)) c.judge.ensures.kept c.judge.ensures.ok

pub returns-then-piece-left-clause-err : goal.returns-then-piece-left-clause-err
returns-then-piece-left-clause-err c = failed_on c.judge.result c.args.self.now c.judge.new.self c.args.piece.now
    c.requires (omega (arith, c.requires.judged)) c.judge.ensures.err

pub returns-in_err-judge-clause-err : goal.returns-in_err-judge-clause-err
returns-in_err-judge-clause-err c =
    let p = err_from_is_err_and c.from_residual.result c.from_residual.ensures.1 in
    rw (p.1, p.2) (λ other bytes given read.
    let found : HasError c.args.self.now c.judge-2.new.self
    (take (judged_bytes - c.args.self.now.taken) c.args.piece.now) c.in_err-judge.field-0.0 =
    subst (λ piece. HasError c.args.self.now c.judge-2.new.self piece c.in_err-judge.field-0.0) c.split_at.ensures.front
    (c.in_err-judge.ensures.err other) in
    error_on bytes given c.args.self.now c.judge-2.new.self c.args.piece.now c.in_err-judge.field-0.0 c.requires read
    found)

pub returns-clause-err : goal.returns-clause-err
returns-clause-err c other bytes given read =
    let taken : TakesTo c.args.self.now c.judge-2.new.self
    (take (judged_bytes - c.args.self.now.taken) c.args.piece.now) [] =
    subst (λ piece. TakesTo c.args.self.now c.judge-2.new.self piece []) c.split_at.ensures.front
    c.in_ok-judge.ensures.ok in
    too_long_on bytes given c.args.self.now c.judge-2.new.self c.args.piece.now c.requires c.in_ok-judge.ensures.kept
    read (omega arith) taken
