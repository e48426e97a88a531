use Rattle.std.proofs.Common.{◌∷◌, [], map, length, refl, ap, sym, ◌∙◌, subst, arith}
use Rattle.std.proofs.lemmas.List.{map-append}
use Rattle.run_resources.specs.Joined.{HasJoined}
use Rattle.run_resources.proofs.Joining.{joins_none, joins_more}
use Rattle.run_resources.proofs.Lists.{all_given, given_on, both_more, items_more}
use Rattle.serve_inputs.proofs.results.bring_in.Goals as goal

pub loop-done-init : goal.loop-done-init
loop-done-init g c =
    let gives = c.into_iter-done-iterator.ensures.into_iter_gives in
    let long = ap length gives.0 in
    record {
      all = gives.0;
      left = omega (arith, gives.1, long, c.args.dones.ok.0);
      ends = c.requires.ends.0;
      sent = c.requires.sent.0;
      lists = c.requires.lists.0;
      names = ap (map (λ s. g.S.Source.name s)) c.requires.sources.0;
      wholes = ap (map (λ s. g.S.Source.whole s)) c.requires.sources.0;
      givens = ap (map (λ s. g.S.Source.given s)) c.requires.sources.0;
      endeds = ap (map (λ s. g.S.Source.ended s)) c.requires.sources.0;
      faults = ap (map (λ s. g.S.Source.read_faults s)) c.requires.sources.0;
      wires = c.requires.wires.0;
      seats = joins_none c.args.main.now;
      end_room = omega (arith, long, c.requires.ends.1);
      list_room = omega (arith, long, c.requires.lists.1);
      sent_room = omega (arith, long, c.requires.sent.1, ap length c.requires.sent.0, c.args.results.sent.ok.0);
      source_room = omega (
        arith,
        long,
        c.requires.sources.1,
        ap length c.requires.sources.0,
        c.args.results.sources.ok.0,
      );
      wire_capacity = refl;
      wire_room = omega (arith, long, c.requires.wires.1, ap length c.requires.wires.0, c.args.results.wires.ok.0);
    }

pub returns-clause-seats : goal.returns-clause-seats
returns-clause-seats g c =
    let before = c.loop-done.invariant in
    let all = all_given c.loop-done.yielded _ _ _ before.all before.left c.in-None.ensures.steps.0 in
    subst (λ l. HasJoined (map (λ d. d.account.seat) l) c.args.main.now c.loop-done.main) all before.seats

pub returns-clause-names : goal.returns-clause-names
returns-clause-names g c =
    let before = c.loop-done.invariant in
    let all = all_given c.loop-done.yielded _ _ _ before.all before.left c.in-None.ensures.steps.0 in
    before.names ∙ ap (map (λ d. d.account.pump.origin.name)) all

pub returns-clause-wholes : goal.returns-clause-wholes
returns-clause-wholes g c =
    let before = c.loop-done.invariant in
    let all = all_given c.loop-done.yielded _ _ _ before.all before.left c.in-None.ensures.steps.0 in
    before.wholes ∙ ap (map (λ d. d.account.pump.origin.whole)) all

pub returns-clause-givens : goal.returns-clause-givens
returns-clause-givens g c =
    let before = c.loop-done.invariant in
    let all = all_given c.loop-done.yielded _ _ _ before.all before.left c.in-None.ensures.steps.0 in
    before.givens ∙ ap (map (λ d. d.account.pump.given)) all

pub returns-clause-endeds : goal.returns-clause-endeds
returns-clause-endeds g c =
    let before = c.loop-done.invariant in
    let all = all_given c.loop-done.yielded _ _ _ before.all before.left c.in-None.ensures.steps.0 in
    before.endeds ∙ ap (map (λ d. d.account.pump.ended)) all

pub returns-clause-faults : goal.returns-clause-faults
returns-clause-faults g c =
    let before = c.loop-done.invariant in
    let all = all_given c.loop-done.yielded _ _ _ before.all before.left c.in-None.ensures.steps.0 in
    before.faults ∙ ap (map (λ d. d.account.pump.faults)) all

pub loop-done-preserved : goal.loop-done-preserved
loop-done-preserved g c =
    let before = c.loop-done.invariant in
    let steps = c.in-Some.ensures.steps in
    let done = c.in-Some.done in
    let given = c.loop-done.yielded in
    let long = ap length steps.0 in
    record {
      all = given_on given _ _ _ _ before.all steps.0;
      left = omega (arith, before.left, steps.1, long);
      ends = items_more given done (λ d. d.account.end) _ _ _ c.in-Ok.ensures.ok before.ends refl;
      lists = items_more given done (λ d. d.account.mine) _ _ _ c.in-Ok-push.ensures.ok before.lists refl;
      names = both_more c.loop-done.sources.items _ _ given done (λ s. g.S.Source.name s)
          (λ d. d.account.pump.origin.name) c.push_reserved.ensures.items before.names c.into_source.ensures.name;
      wholes = both_more c.loop-done.sources.items _ _ given done (λ s. g.S.Source.whole s)
          (λ d. d.account.pump.origin.whole) c.push_reserved.ensures.items before.wholes c.into_source.ensures.whole;
      givens = both_more c.loop-done.sources.items _ _ given done (λ s. g.S.Source.given s) (λ d. d.account.pump.given)
          c.push_reserved.ensures.items before.givens c.into_source.ensures.given;
      endeds = both_more c.loop-done.sources.items _ _ given done (λ s. g.S.Source.ended s) (λ d. d.account.pump.ended)
          c.push_reserved.ensures.items before.endeds c.into_source.ensures.ended;
      faults = both_more c.loop-done.sources.items _ _ given done (λ s. g.S.Source.read_faults s)
          (λ d. d.account.pump.faults) c.push_reserved.ensures.items before.faults c.into_source.ensures.faults;
      sent = items_more given done (λ d. d.account.sent) _ _ _ c.push_reserved-in-loop-done-2.ensures.items before.sent
          refl;
      wires = items_more given done (λ d. d.wire) _ _ _ c.push_reserved-in-loop-done.ensures.items before.wires refl;
      seats = subst (λ l. HasJoined l c.args.main.now c.join.new.into)
          (sym (map-append (λ d. d.account.seat) given (done ∷ [])))
          (joins_more _ _ c.loop-done.main done.account.seat c.join.new.into before.seats c.join.ensures.joined);
      end_room = omega (arith, before.end_room, long, c.push.ensures.spare);
      list_room = omega (arith, before.list_room, long, c.push-in-loop-done.ensures.spare);
      sent_room = omega (
        arith,
        before.sent_room,
        long,
        c.push_reserved-in-loop-done-2.ensures.len,
        c.push_reserved-in-loop-done-2.ensures.capacity,
      );
      source_room = omega (
        arith,
        before.source_room,
        long,
        c.push_reserved.ensures.len,
        c.push_reserved.ensures.capacity,
      );
      wire_capacity = omega (arith, before.wire_capacity, c.push_reserved-in-loop-done.ensures.capacity);
      wire_room = omega (
        arith,
        before.wire_room,
        long,
        c.push_reserved-in-loop-done.ensures.len,
        c.push_reserved-in-loop-done.ensures.capacity,
      );
    }

pub loop-done-preserved-in-Ok-push : goal.loop-done-preserved-in-Ok-push
loop-done-preserved-in-Ok-push g c =
    let before = c.loop-done.invariant in
    let steps = c.in-Some.ensures.steps in
    let done = c.in-Some.done in
    let given = c.loop-done.yielded in
    let long = ap length steps.0 in
    record {
      all = given_on given _ _ _ _ before.all steps.0;
      left = omega (arith, before.left, steps.1, long);
      ends = items_more given done (λ d. d.account.end) _ _ _ c.in-Ok.ensures.ok before.ends refl;
      lists = items_more given done (λ d. d.account.mine) _ _ _ c.in-Ok-push.ensures.ok before.lists refl;
      names = both_more c.loop-done.sources.items _ _ given done (λ s. g.S.Source.name s)
          (λ d. d.account.pump.origin.name) c.push_reserved.ensures.items before.names c.into_source.ensures.name;
      wholes = both_more c.loop-done.sources.items _ _ given done (λ s. g.S.Source.whole s)
          (λ d. d.account.pump.origin.whole) c.push_reserved.ensures.items before.wholes c.into_source.ensures.whole;
      givens = both_more c.loop-done.sources.items _ _ given done (λ s. g.S.Source.given s) (λ d. d.account.pump.given)
          c.push_reserved.ensures.items before.givens c.into_source.ensures.given;
      endeds = both_more c.loop-done.sources.items _ _ given done (λ s. g.S.Source.ended s) (λ d. d.account.pump.ended)
          c.push_reserved.ensures.items before.endeds c.into_source.ensures.ended;
      faults = both_more c.loop-done.sources.items _ _ given done (λ s. g.S.Source.read_faults s)
          (λ d. d.account.pump.faults) c.push_reserved.ensures.items before.faults c.into_source.ensures.faults;
      sent = items_more given done (λ d. d.account.sent) _ _ _ c.push_reserved-in-loop-done-2.ensures.items before.sent
          refl;
      wires = items_more given done (λ d. d.wire) _ _ _ c.push_reserved-in-loop-done.ensures.items before.wires refl;
      seats = subst (λ l. HasJoined l c.args.main.now c.join.new.into)
          (sym (map-append (λ d. d.account.seat) given (done ∷ [])))
          (joins_more _ _ c.loop-done.main done.account.seat c.join.new.into before.seats c.join.ensures.joined);
      end_room = omega (arith, before.end_room, long, c.push.ensures.spare);
      list_room = omega (arith, before.list_room, long, c.push-in-loop-done.ensures.spare);
      sent_room = omega (
        arith,
        before.sent_room,
        long,
        c.push_reserved-in-loop-done-2.ensures.len,
        c.push_reserved-in-loop-done-2.ensures.capacity,
      );
      source_room = omega (
        arith,
        before.source_room,
        long,
        c.push_reserved.ensures.len,
        c.push_reserved.ensures.capacity,
      );
      wire_capacity = omega (arith, before.wire_capacity, c.push_reserved-in-loop-done.ensures.capacity);
      wire_room = omega (
        arith,
        before.wire_room,
        long,
        c.push_reserved-in-loop-done.ensures.len,
        c.push_reserved-in-loop-done.ensures.capacity,
      );
    }
