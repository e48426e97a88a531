use Rattle.std.proofs.Common.{List, map, length, slice_get, arith, refl, sym, subst, ◌∙◌, ap, vec_len}
use Rattle.std.proofs.lemmas.List.{length-map}
use Rattle.std.proofs.lemmas.Option.{slice_get_read}
use Rattle.replay_check.specs.InOrder.{IsNext}
use Rattle.replay_check.specs.Inputs.{parts_of}
use Rattle.replay_check.specs.Places.{told}
use Rattle.replay_check.specs.declared.session.Session.{Session}
use Rattle.replay_check.proofs.Orders.{none_next}
use Rattle.replay_check.proofs.Cursors.{none_left, placed_at, is_taken, not_taken}
use Rattle.replay_check.proofs.order.take_part.Goals as goal

pub returns-then-number-sessions-clause-none : goal.returns-then-number-sessions-clause-none
returns-then-number-sessions-clause-none c = λ shards earlier placed were none next.
    let sessions = c.args.sessions.now in
    none_next c.args.entry (subst (λ steps. IsNext steps c.args.entry)
    (none_left (told sessions) shards c.args.shard earlier c.args.entry.session
    (omega (arith, length-map sessions (λ (s : Session). s.commands.items), c.if-number-sessions.true))) next)

pub returns-in_err-place-clause-none : goal.returns-in_err-place-clause-none
returns-in_err-place-clause-none c = λ shards earlier placed were none next.
    let sessions = c.args.sessions.now in
    let number = c.args.entry.session in
    let session = c.index-sessions-number.result in
    let is = slice_get_read sessions (length sessions) number session refl (omega (arith, c.if-number-sessions.false))
    c.index-sessions-number.is in
    let are = c.as_slice.ensures.value ∙ ap (λ (s : Session). s.places.items) (sym c.index-sessions-number.is)
    ∙ placed_at shards sessions number session is placed in
    not_taken (told sessions) shards c.args.shard earlier c.args.cursors.now.items c.args.entry c.index.result.now were
    (slice_get_read c.args.cursors.now.items (length sessions) number c.index.result.now
    (sym c.requires ∙ c.args.cursors.now.ok.0) (omega (arith, c.if-number-sessions.false)) c.index.ensures)
    (c.in_err-place.ensures.none shards (parts_of (told sessions) number) are refl) next

pub returns-clause-taken : goal.returns-clause-taken
returns-clause-taken c = λ shards earlier placed were.
    let sessions = c.args.sessions.now in
    let number = c.args.entry.session in
    let session = c.index-sessions-number.result in
    let is = slice_get_read sessions (length sessions) number session refl (omega (arith, c.if-number-sessions.false))
    c.index-sessions-number.is in
    let are = c.as_slice.ensures.value ∙ ap (λ (s : Session). s.places.items) (sym c.index-sessions-number.is)
    ∙ placed_at shards sessions number session is placed in
    is_taken (told sessions) shards c.args.shard earlier c.args.cursors.now.items c.args.entry c.index.result.now
    c.in_ok-place.place were
    (slice_get_read c.args.cursors.now.items (length sessions) number c.index.result.now
    (sym c.requires ∙ c.args.cursors.now.ok.0) (omega (arith, c.if-number-sessions.false)) c.index.ensures)
    (c.in_ok-place.ensures.found shards (parts_of (told sessions) number) are)
