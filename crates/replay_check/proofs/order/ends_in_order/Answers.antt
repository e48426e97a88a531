use Rattle.std.proofs.Common.{length, get_or, arith, refl, ap, sym, ◌∙◌, subst, ⊎_elim}
use Rattle.std.proofs.lemmas.List.{length-map}
use Rattle.std.proofs.lemmas.Option.{slice_get-get_or}
use Rattle.replay_check.specs.InOrder.{AreWrites, left_behind}
use Rattle.replay_check.specs.Inputs.{parts_of}
use Rattle.replay_check.specs.Places.{told}
use Rattle.replay_check.specs.declared.session.Session.{Session}
use Rattle.std.proofs.lemmas.Option.{slice_get_read}
use Rattle.replay_check.proofs.Cursors.{none_left, placed_at, due_writes, not_due, below_next, below_or_not}
use Rattle.replay_check.proofs.order.ends_in_order.Goals as goal

pub returns-then-not-all_due : goal.returns-then-not-all_due
returns-then-not-all_due c = λ shards earlier placed were. (
  λ yes. absurd (cc (yes)),
  λ all.
      let sessions = c.args.sessions.now in
      let number = c.loop-number.number in
      let at = get_or c.args.cursors.now number 0 in
      let is = slice_get_read sessions (length sessions) number c.index-sessions-number.result refl
      c.loop-number-test.true c.index-sessions-number.is in
      let are = c.as_slice.ensures.value ∙ ap (λ (s : Session). s.places.items) (sym c.index-sessions-number.is)
      ∙ placed_at shards sessions number c.index-sessions-number.result is placed in
      let left = were.each number at
      (slice_get-get_or c.args.cursors.now number 0 (omega (arith, c.requires, c.loop-number-test.true))) in
      absurd (not_due shards c.args.shard at c.as_slice.result.now (parts_of (told sessions) number) are
      (sym c.all_due.ensures ∙ c.if-not-all_due.true) (subst AreWrites (sym left) (all number))),
)

pub loop-number-preserved : goal.loop-number-preserved
loop-number-preserved c = λ shards earlier placed were.
    let sessions = c.args.sessions.now in
    let number = c.loop-number.number in
    let at = get_or c.args.cursors.now number 0 in
    let is = slice_get_read sessions (length sessions) number c.index-sessions-number.result refl
    c.loop-number-test.true c.index-sessions-number.is in
    let are = c.as_slice.ensures.value ∙ ap (λ (s : Session). s.places.items) (sym c.index-sessions-number.is)
    ∙ placed_at shards sessions number c.index-sessions-number.result is placed in
    let left = were.each number at
    (slice_get-get_or c.args.cursors.now number 0 (omega (arith, c.requires, c.loop-number-test.true))) in
    below_next (λ session. AreWrites (left_behind (told sessions) shards c.args.shard earlier session)) number
    (c.loop-number.invariant shards earlier placed were)
    (subst AreWrites left (due_writes shards c.args.shard at c.as_slice.result.now (parts_of (told sessions) number) are
    (sym c.all_due.ensures ∙ c.if-not-all_due.false)))

pub returns : goal.returns
returns c = λ shards earlier placed were. (
  λ yes session.
      let sessions = c.args.sessions.now in
      ⊎_elim (λ below. c.loop-number.invariant shards earlier placed were session
      (omega (arith, c.loop-number-test.false, below)))
      (λ past.
      subst AreWrites (sym (none_left (told sessions) shards c.args.shard earlier session
      (omega (arith, length-map sessions (λ (s : Session). s.commands.items), past)))) tt)
      (below_or_not session (length sessions)),
  λ all. refl,
)
