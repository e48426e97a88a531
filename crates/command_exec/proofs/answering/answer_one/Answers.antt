use Rattle.command_exec.proofs.Asked.{on_err}
use Rattle.command_exec.proofs.OnePart.{line_left, one_reply, one_missed}
use Rattle.command_exec.proofs.answering.answer_one.Goals as goal

pub returns-in_err-answer-clause-stopped : goal.returns-in_err-answer-clause-stopped
returns-in_err-answer-clause-stopped g c =
    on_err c.from_residual.result
    (one_missed g.P.PoolName.sizes g.N.BookName.sizes.shards c.args.command.now c.args.at c.args.pass.now
    c.run_part.new.pass c.args.stored.now.items c.requires.kind c.requires.session.1 c.in_err-answer.ensures.missed)

pub copy_answer-requires-clause-fits : goal.copy_answer-requires-clause-fits
copy_answer-requires-clause-fits g c =
    line_left g.P.PoolName.sizes g.N.BookName.sizes.shards c.args.command.now c.args.at c.in_ok-answer.answer
    c.args.pass.now c.run_part.new.pass c.args.stored.now.items c.run_part.new.stored.items c.args.plan.now
    c.run_part.new.plan
    c.requires.kind c.requires.session.1 c.requires.started c.in_ok-answer.ensures.ran

pub returns-clause-reply : goal.returns-clause-reply
returns-clause-reply g c =
    one_reply g.P.PoolName.sizes g.N.BookName.sizes.shards c.args.command.now c.args.at c.in_ok-answer.answer
    c.args.pass.now c.run_part.new.pass c.args.stored.now.items c.run_part.new.stored.items c.args.plan.now
    c.run_part.new.plan
    c.requires.kind c.requires.session.1 c.requires.started c.in_ok-answer.ensures.ran c.copy_answer.new.plan
    c.requires.session.0 c.copy_answer.ensures.plan
