use Rattle.std.proofs.Common.{subst, sym, arith}
use Rattle.transcript_model.proofs.Some.{some_stored}
use Rattle.drive_script.specs.Says.{PrintsText}
use Rattle.drive_script.proofs.Sayings.{says_then}
use Rattle.drive_script.proofs.saying.say_stored.Goals as goal

pub returns-clause-said : goal.returns-clause-said
returns-clause-said g c =
    subst (λ text. PrintsText c.args.failed c.say_segments.result text (g.H.Host.host_told c.args.host.now)
    (g.H.Host.host_told c.say_segments.new.host)) (sym (some_stored c.args.stored.now (grind arith)))
    (says_then c.args.failed c.say-failed.result c.say_segments.result _ _ (g.H.Host.host_told c.args.host.now)
    (g.H.Host.host_told c.say-failed.new.host) (g.H.Host.host_told c.say_segments.new.host) c.say-failed.ensures
    c.say_segments.ensures.said)
