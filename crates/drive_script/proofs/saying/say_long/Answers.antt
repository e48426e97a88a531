use Rattle.std.proofs.Common.{subst, sym, ap, ◌∙◌}
use Rattle.transcript_model.specs.Told.{said}
use Rattle.transcript_model.specs.Lines.{transcript_line}
use Rattle.drive_script.specs.Happened.{line_event}
use Rattle.drive_script.specs.Says.{PrintsText}
use Rattle.drive_script.proofs.Sayings.{says_then, line_in_pieces}
use Rattle.drive_script.proofs.saying.say_long.Goals as goal

pub returns-in-Posted-clause-said : goal.returns-in-Posted-clause-said
returns-in-Posted-clause-said g c =
    let old = g.H.Host.host_told c.args.host.now in
    let one = g.H.Host.host_told c.say-failed.new.host in
    let new = g.H.Host.host_told c.say_lists.new.host in
    subst (λ text. PrintsText c.args.failed c.say_lists.result text old new)
    (line_in_pieces c.args.session c.in-Posted.call c.in-Posted.reaped c.args.sent.now c.args.stored.now
    ∙ ap (λ h. transcript_line (said c.args.session (line_event h c.args.sent.now c.args.stored.now)))
    (sym c.in-Posted.is))
    (says_then c.args.failed c.say-failed.result c.say_lists.result _ _ old one new
    (subst (λ text. PrintsText c.args.failed c.say-failed.result text old one)
    (c.as_slice.ensures.value ∙ c.posted_front.ensures.text) c.say-failed.ensures) c.say_lists.ensures.said)
