use Rattle.session_pass.proofs.Nothing.{nothing_run}
use Rattle.session_pass.proofs.run.run.Goals as goal

pub returns-then-is_err-clause-memory : goal.returns-then-is_err-clause-memory
returns-then-is_err-clause-memory g c =
    nothing_run g.P.PoolName.sizes g.N.BookName.sizes.shards c.args.at.call c.args.command.now c.args.pass.now
