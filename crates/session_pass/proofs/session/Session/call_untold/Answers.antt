use Rattle.std.proofs.Common.{sym, ap, ◌∙◌}
use Rattle.session_pass.specs.Views.{SessionView}
use Rattle.session_pass.proofs.Calling.{refused_again, posts_behind, refused_behind}
use Rattle.session_pass.proofs.session.Session.call_untold.Goals as goal

pub returns-then-self-clause-refused : goal.returns-then-self-clause-refused
returns-then-self-clause-refused g c =
    refused_again g.P.PoolName.sizes g.N.BookName.sizes.shards c.args.command.now c.args.self.now
    (ap (λ (s : SessionView). s.stopped) (sym c.self.view_is) ∙ c.if-self.true)

pub returns-in-Ok-clause-posted : goal.returns-in-Ok-clause-posted
returns-in-Ok-clause-posted g c = (_, _, posts_behind c.in_ok-reaped.ensures.room c.in-Ok.ensures.posted.2)

pub returns-in-Err-Memory-clause-refused : goal.returns-in-Err-Memory-clause-refused
returns-in-Err-Memory-clause-refused g c = refused_behind c.in_ok-reaped.ensures.room c.in-Err-Memory.ensures.refused
