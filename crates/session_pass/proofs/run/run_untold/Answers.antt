use Rattle.session_pass.proofs.Nothing.{nothing_run}
use Rattle.session_pass.proofs.run.run_untold.Goals as goal

pub returns-in_default-clause-memory : goal.returns-in_default-clause-memory
returns-in_default-clause-memory g c =
    nothing_run g.P.PoolName.sizes g.N.BookName.sizes.shards c.args.at.call c.args.command.now c.args.pass.now
