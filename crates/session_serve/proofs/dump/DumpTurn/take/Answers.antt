use Rattle.std.proofs.Common.{sym, ◌∙◌, subst}
use Rattle.session_serve.specs.Dumps.{CanTake, Stands}
use Rattle.session_serve.proofs.Dumping.{came-taken, came-refused}
use Rattle.session_serve.proofs.dump.DumpTurn.take.Goals as goal

pub take_dump-requires-clause-holds : goal.take_dump-requires-clause-holds
take_dump-requires-clause-holds g c κs within =
    let is = sym c.take.ensures.value ∙ c.in-Some.is in
    (subst (CanTake g.P.PoolName.sizes g.N.BookName.sizes.shards) is c.requires.plan).0

pub take_dump-requires-clause-credits : goal.take_dump-requires-clause-credits
take_dump-requires-clause-credits g c κs within =
    let is = sym c.take.ensures.value ∙ c.in-Some.is in
    (subst (CanTake g.P.PoolName.sizes g.N.BookName.sizes.shards) is c.requires.plan).1

pub returns-in_default-clause-came : goal.returns-in_default-clause-came
returns-in_default-clause-came g c asked first stands =
    let shards = g.N.BookName.sizes.shards in
    subst (λ plan. Stands shards asked plan c.args.self.now.taken first c.args.session.now.pass.list)
    (sym c.take.ensures.value ∙ c.in_default.is) stands

pub returns-in-Ok-clause-came : goal.returns-in-Ok-clause-came
returns-in-Ok-clause-came g c asked first stands =
    let shards = g.N.BookName.sizes.shards in
    came-taken shards asked c.in-Some.plan c.args.self.now.taken first c.args.session.now.pass.list
    c.take_dump.new.self.pass.list c.in-Ok.dump c.in-Ok.ensures.taken c.in-Ok.ensures.kept
    (subst (λ plan. Stands shards asked plan c.args.self.now.taken first c.args.session.now.pass.list)
    (sym c.take.ensures.value ∙ c.in-Some.is) stands)

pub returns-in-Err-clause-came : goal.returns-in-Err-clause-came
returns-in-Err-clause-came g c asked first stands =
    let shards = g.N.BookName.sizes.shards in
    came-refused shards asked c.in-Some.plan c.args.self.now.taken first c.args.session.now.pass.list
    c.take_dump.new.self.pass.list c.in-Err.seat c.in-Err.ensures.refused
    (subst (λ plan. Stands shards asked plan c.args.self.now.taken first c.args.session.now.pass.list)
    (sym c.take.ensures.value ∙ c.in-Some.is) stands)
