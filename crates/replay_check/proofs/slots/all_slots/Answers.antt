use Rattle.std.proofs.Common.{◌+◌, ◌∙◌, [], refl, sym, subst, length, take}
use Rattle.std.proofs.lemmas.List.{take_all}
use Rattle.std.proofs.lemmas.Option.{slice_get_read}
use Rattle.replay_check.specs.Noted.{AreNoted}
use Rattle.replay_check.specs.Places.{told}
use Rattle.replay_check.proofs.Grown.{one_empty}
use Rattle.replay_check.proofs.slots.all_slots.Goals as goal

pub loop-session-preserved : goal.loop-session-preserved
loop-session-preserved c =
    let sessions = c.args.sessions.now in
    let k = c.loop-session.session-index in
    let session = c.session-item.result in
    subst (AreNoted (told (take (k + 1) sessions)) []) (sym c.in_ok-push.ensures.items)
    (one_empty c.args.shards k sessions session c.loop-session.slots.items c.in_ok-no_answers.field-0 c.len.result
    (slice_get_read sessions (length sessions) k session refl c.loop-session-test.true c.session-item.is) c.requires
    (c.len.ensures ∙ session.places.ok.0) c.in_ok-no_answers.ensures c.loop-session.invariant)
