use Rattle.std.proofs.Common.{◌++◌, ◌∷◌, []}
use Rattle.std.specs.List.{flat_map}
use Rattle.transcript_model.specs.Lines.{segment_text, stored_text}
use Rattle.drive_script.proofs.Sayings.{says_then}
use Rattle.drive_script.proofs.saying.say_lists.Goals as goal

pub returns-clause-said : goal.returns-clause-said
returns-clause-said g c =
    let old = g.H.Host.host_told c.args.host.now in
    let one = g.H.Host.host_told c.say_segments-failed.new.host in
    let two = g.H.Host.host_told c.say_stored-failed.new.host in
    let sent = flat_map segment_text c.args.sent.now in
    let stored = stored_text c.args.stored.now in
    says_then c.args.failed c.say_stored-failed.result c.say.result (sent ++ stored) (10 ∷ []) old two
    (g.H.Host.host_told c.say.new.host)
    (says_then c.args.failed c.say_segments-failed.result c.say_stored-failed.result sent stored old one two
    c.say_segments-failed.ensures.said c.say_stored-failed.ensures.said) c.say.ensures
