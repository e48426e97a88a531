use Rattle.std.proofs.Common.{◌≡◌, ◌+◌, ◌++◌, ◌∷◌, [], ◌∙◌, Some, refl, ap, sym, subst, length, take, get_or, set}
use Rattle.std.proofs.Common.{slice_get, arith, append-nil, ⊎_elim}
use Rattle.std.proofs.lemmas.List.{length-map, take_all}
use Rattle.std.proofs.lemmas.Option.{slice_get_read, slice_get_past, slice_get-get_or}
use Rattle.std.specs.List.{flat_map}
use Rattle.std.specs.FinMap as finite
use Rattle.flake_base.specs.declared.journal.Entry.{Entry}
use Rattle.flake_model.specs.Journal.{step_of, answers_from, store_after, commands_of, session_steps}
use Rattle.byte_store.specs.Store.{answer_meant}
use Rattle.replay_check.specs.InOrder.{IsInOrder, left_behind, AreWrites}
use Rattle.replay_check.specs.Noted.{AreNoted, HasPart}
use Rattle.replay_check.specs.Places.{told, AreAt}
use Rattle.replay_check.specs.declared.session.Session.{Session}
use Rattle.replay_check.proofs.Cursors.{below_next, below_or_not, commands_at, told_at}
use Rattle.replay_check.proofs.Rising.{has_part}
use Rattle.replay_check.proofs.Noting.{one_more, has_slot}
use Rattle.replay_check.proofs.Replayed.{held_more, noted_more, more_entries, in_order_at, not_in_order_at}
use Rattle.replay_check.proofs.Replayed.{in_order_end, not_in_order_end}
use Rattle.replay_check.proofs.replay.replay_shard.Goals as goal

-- no entry
nothing : Entry
nothing = record { session = 0; call = 0; part = 0 }

pub loop-place-init : goal.loop-place-init
loop-place-init c =
    let sessions = c.args.sessions.now in
    record {
      noted = λ before were. subst (λ answers. AreNoted (told sessions) answers c.args.slots.now.items)
          (sym (append-nil before)) were;
      held = c.new-store.ensures;
      at = λ shards placed. c.in_ok-cursors.ensures shards c.args.shard;
      in_order = λ shards placed k below. absurd (omega (arith, below));
      count = c.in_ok-cursors.cursors.ok.0 ∙ (c.in_ok-cursors.ensures 0 0).count
          ∙ length-map sessions (λ (s : Session). s.commands.items);
      slots = c.args.slots.now.ok.0 ∙ c.requires.noted.1.count
          ∙ length-map sessions (λ (s : Session). s.commands.items);
    }

pub returns-in_default-clause-fault : goal.returns-in_default-clause-fault
unfolding nothing
returns-in_default-clause-fault c = λ shards placed.
    let sessions = c.args.sessions.now in
    let history = c.args.history.now in
    let place = c.loop-place.place in (
      refl,
      record {
        within = omega (arith, c.loop-place-test.true);
        at_fault = not_in_order_at (told sessions) shards c.args.shard history place (get_or history place nothing)
            (slice_get-get_or history place nothing c.loop-place-test.true)
            (c.in_default.ensures.none shards (take place history) placed (c.loop-place.invariant.at shards placed)
            refl);
        before = c.loop-place.invariant.in_order shards placed;
      },
    )

pub do_part-requires : goal.do_part-requires
unfolding nothing
do_part-requires c =
    let sessions = c.args.sessions.now in
    let history = c.args.history.now in
    let place = c.loop-place.place in
    let entry = get_or history place nothing in
    let shards = c.requires.placed.0 in
    let placed = c.requires.placed.1 in
    let taken = c.in-Some.ensures.taken shards (take place history) placed (c.loop-place.invariant.at shards placed) in
    let session = c.index-sessions-number.result in
    let is = slice_get_read sessions (length sessions) entry.session session refl c.in-Some.ensures.within
    c.index-sessions-number.is in (
      taken.operation,
      subst (λ commands. HasPart commands entry taken.operation) (commands_at sessions entry.session session is)
          (has_part entry.session (commands_of (told sessions) entry.session) c.in-Some.part entry taken.operation
          taken.step_is),
    )

pub note-requires : goal.note-requires
unfolding nothing
note-requires c =
    let sessions = c.args.sessions.now in
    let history = c.args.history.now in
    let place = c.loop-place.place in
    let entry = get_or history place nothing in
    let shards = c.requires.placed.0 in
    let placed = c.requires.placed.1 in
    let taken = c.in-Some.ensures.taken shards (take place history) placed (c.loop-place.invariant.at shards placed) in
    let session = c.index-sessions-number.result in
    let own = c.index_mut.result.now in
    let is = slice_get_read sessions (length sessions) entry.session session refl c.in-Some.ensures.within
    c.index-sessions-number.is in
    let slots = c.loop-place.slots.items in
    let had = slice_get_read slots (length sessions) entry.session own
    (sym c.loop-place.invariant.slots ∙ c.loop-place.slots.ok.0) c.in-Some.ensures.within c.index_mut.ensures.value
    in
    let step = subst (λ commands. slice_get (session_steps entry.session 0 commands) c.in-Some.part
    ≡ Some (entry, taken.operation)) (commands_at sessions entry.session session is) taken.step_is in
    let before = c.requires.noted.0 in
    omega (
      arith,
      own.ok.0,
      has_slot (told sessions)
          (before ++ answers_from finite.empty (flat_map (step_of (told sessions)) (take place history))) slots
          entry.session c.in-Some.part session.commands.items own (entry, taken.operation)
          (c.loop-place.invariant.noted before c.requires.noted.1) (told_at sessions entry.session session is) had step,
    )

pub loop-place-preserved : goal.loop-place-preserved
unfolding nothing
loop-place-preserved c =
    let sessions = c.args.sessions.now in
    let history = c.args.history.now in
    let place = c.loop-place.place in
    let entry = get_or history place nothing in
    let there = slice_get-get_or history place nothing c.loop-place-test.true in
    let taken = c.in-Some.ensures.taken c.requires.placed.0 (take place history) c.requires.placed.1
    (c.loop-place.invariant.at c.requires.placed.0 c.requires.placed.1) in
    let session = c.index-sessions-number.result in
    let own = c.index_mut.result.now in
    let is = slice_get_read sessions (length sessions) entry.session session refl c.in-Some.ensures.within
    c.index-sessions-number.is in
    let slots = c.loop-place.slots.items in
    let had = slice_get_read slots (length sessions) entry.session own
    (sym c.loop-place.invariant.slots ∙ c.loop-place.slots.ok.0) c.in-Some.ensures.within c.index_mut.ensures.value
    in
    let has = has_part entry.session (commands_of (told sessions) entry.session) c.in-Some.part entry taken.operation
    taken.step_is in
    let part = subst (λ commands. HasPart commands entry taken.operation)
    (commands_at sessions entry.session session is) has in
    let meaning = store_after finite.empty (flat_map (step_of (told sessions)) (take place history)) in
    let so_far = answers_from finite.empty (flat_map (step_of (told sessions)) (take place history)) in
    record {
      noted = λ before were.
          noted_more (told sessions) history place entry taken.operation there has before
          (answer_meant c.in_ok-answer.answer) (set slots entry.session c.note.new.slots)
          (c.in_ok-answer.ensures.answer meaning taken.operation c.loop-place.invariant.held part)
          (one_more (told sessions) (before ++ so_far) slots own c.note.new.slots entry c.in-Some.part taken.operation
          (answer_meant c.in_ok-answer.answer) (c.loop-place.invariant.noted before were) had taken.step_is
          c.note.ensures);
      held = held_more (told sessions) history place entry taken.operation there has c.do_part.new.store
          (c.in_ok-answer.ensures.after meaning taken.operation c.loop-place.invariant.held part);
      at = λ shards placed.
          subst (λ entries. AreAt (told sessions) shards c.args.shard entries c.take_part.new.cursors.items)
          (sym (more_entries history place entry there))
          (c.in-Some.ensures.taken shards (take place history) placed (c.loop-place.invariant.at shards placed)).at;
      in_order = λ shards placed.
          below_next (IsInOrder (told sessions) shards c.args.shard history) place
          (c.loop-place.invariant.in_order shards placed)
          (in_order_at (told sessions) shards c.args.shard history place entry there
          (c.in-Some.ensures.taken shards (take place history) placed
          (c.loop-place.invariant.at shards placed)).next);
      count = c.in-Some.ensures.count ∙ c.loop-place.invariant.count;
      slots = c.loop-place.invariant.slots;
    }

pub returns-then-not-ends_in_order-clause-fault : goal.returns-then-not-ends_in_order-clause-fault
returns-then-not-ends_in_order-clause-fault c = λ shards placed.
    let sessions = c.args.sessions.now in
    let history = c.args.history.now in
    let entries = take c.loop-place.place history in
    let whole : entries ≡ history = take_all c.loop-place.place history (omega (arith, c.loop-place-test.false)) in
    let at = subst (AreAt (told sessions) shards c.args.shard entries) (sym c.as_slice.ensures.value)
    (c.loop-place.invariant.at shards placed) in
    let ends = c.ends_in_order.ensures shards entries placed at in (
      refl,
      record {
        within = omega arith;
        at_fault = not_in_order_end (told sessions) shards c.args.shard history (length history)
            (slice_get_past history (length history) (omega arith))
            (λ all. cc (
              ends.1 (λ session. subst
                  (λ h. AreWrites (left_behind (told sessions) shards c.args.shard h session)) (sym whole)
                  (all session)),
              c.if-not-ends_in_order.true,
            ));
        before = λ k below. c.loop-place.invariant.in_order shards placed k
            (omega (arith, below, c.loop-place-test.false));
      },
    )

pub returns-clause-noted : goal.returns-clause-noted
returns-clause-noted c = λ before were.
    let sessions = c.args.sessions.now in
    let history = c.args.history.now in
    let whole : take c.loop-place.place history ≡ history = take_all c.loop-place.place history
    (omega (arith, c.loop-place-test.false)) in
    subst (λ entries. AreNoted (told sessions)
    (before ++ answers_from finite.empty (flat_map (step_of (told sessions)) entries)) c.loop-place.slots.items)
    whole (c.loop-place.invariant.noted before were)

pub returns-clause-in_order : goal.returns-clause-in_order
returns-clause-in_order c = λ shards placed place within.
    let sessions = c.args.sessions.now in
    let history = c.args.history.now in
    let entries = take c.loop-place.place history in
    let whole : entries ≡ history = take_all c.loop-place.place history (omega (arith, c.loop-place-test.false)) in
    let at = subst (AreAt (told sessions) shards c.args.shard entries) (sym c.as_slice.ensures.value)
    (c.loop-place.invariant.at shards placed) in
    let ends = c.ends_in_order.ensures shards entries placed at in
    ⊎_elim (λ below. c.loop-place.invariant.in_order shards placed place
    (omega (arith, below, c.loop-place-test.false)))
    (λ past.
    in_order_end (told sessions) shards c.args.shard history place (slice_get_past history place past)
    (λ session. subst (λ h. AreWrites (left_behind (told sessions) shards c.args.shard h session)) whole
    (ends.0 c.if-not-ends_in_order.false session)))
    (below_or_not place (length history))
