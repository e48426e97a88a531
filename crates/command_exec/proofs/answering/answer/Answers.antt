use Rattle.command_exec.proofs.AtOnce.{at_once}
use Rattle.command_exec.proofs.answering.answer.Goals as goal

pub returns-in-Ping-clause-reply : goal.returns-in-Ping-clause-reply
returns-in-Ping-clause-reply g c =
    let done = c.answer_at_once.ensures in
    at_once g.P.PoolName.sizes g.N.BookName.sizes.shards c.args.at.call c.args.command.now c.args.pass.now
    c.args.stored.now.items c.args.plan.now c.answer_at_once.new.plan done.kind done.base done.begun done.pieces
