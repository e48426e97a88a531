use Rattle.std.proofs.Common.{subst}
use Rattle.reply_planner.specs.Stages.{NoneInBoth}
use Rattle.reply_planner.proofs.Compared.{apart_from}
use Rattle.command_exec.specs.Passes.{PassView}
use Rattle.command_exec.proofs.pass.Pass.compare.Goals as goal

pub returns-clause-apart : goal.returns-clause-apart
returns-clause-apart g c =
    subst (λ (p : PassView). NoneInBoth p.free c.args.other.now.free) c.self.view_is
    (subst (λ (p : PassView). NoneInBoth c.self.inside.stage p.free) c.other.view_is
    (apart_from c.self.inside.stage c.other.inside.stage c.other.inside.seat.holds c.compare.ensures.apart
    c.other.invariant.own))
