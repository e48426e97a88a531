use Rattle.std.proofs.Common.{sym, subst}
use Rattle.session_serve.proofs.Sides.{fresh-told}
use Rattle.session_serve.specs.Dumps.{DumpCame}
use Rattle.session_pass.specs.Fresh.{IsFresh}
use Rattle.session_serve.proofs.beside.serve_beside.Goals as goal

pub serve_sides-requires-clause-fresh : goal.serve_sides-requires-clause-fresh
serve_sides-requires-clause-fresh g c κs within =
    subst (λ s. IsFresh _ s c.args.link.pump) (sym c.both_ends.ensures.session) (fresh-told _ _ _ _ c.requires.fresh)

pub returns-clause-dump : goal.returns-clause-dump
returns-clause-dump g c =
    let account = c.serve_sides.result.1 in
    subst (λ s. DumpCame g.N.BookName.sizes.shards c.args.link.dump.plan account.dump s.pass.list account.mine)
    c.both_ends.ensures.session c.serve_sides.ensures.dump
