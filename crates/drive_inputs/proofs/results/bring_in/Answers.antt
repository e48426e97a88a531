use Rattle.std.proofs.Common.{◌∷◌, [], map, length, refl, ap, sym, subst, arith}
use Rattle.std.proofs.lemmas.List.{map-append}
use Rattle.command_pump.specs.Pump.{origin_of}
use Rattle.run_resources.specs.Joined.{HasJoined}
use Rattle.run_resources.proofs.Joining.{joins_none, joins_more}
use Rattle.run_resources.proofs.Lists.{all_given, given_on, both_more, items_more}
use Rattle.drive_inputs.proofs.results.bring_in.Goals as goal

pub loop-account-init : goal.loop-account-init
loop-account-init g c =
    let gives = c.into_iter-account-iterator.ensures.into_iter_gives in
    let long = ap length gives.0 in
    record {
      all = gives.0;
      left = omega (arith, gives.1, long, c.args.accounts.ok.0);
      ends = c.requires.ends.0;
      lists = c.requires.lists.0;
      origins = ap (map (λ s. origin_of (g.S.Source.name s) (g.S.Source.whole s))) c.requires.sources.0;
      givens = ap (map (λ s. g.S.Source.given s)) c.requires.sources.0;
      endeds = ap (map (λ s. g.S.Source.ended s)) c.requires.sources.0;
      faults = ap (map (λ s. g.S.Source.read_faults s)) c.requires.sources.0;
      wires = c.requires.wires.0;
      seats = joins_none c.args.main.now;
      end_room = omega (arith, long, c.requires.ends.1);
      list_room = omega (arith, long, c.requires.lists.1);
      source_room = omega (
        arith,
        long,
        c.requires.sources.1,
        ap length c.requires.sources.0,
        c.args.results.sources.ok.0,
      );
      wire_room = omega (arith, long, c.requires.wires.1, ap length c.requires.wires.0, c.args.results.wires.ok.0);
    }

pub returns-clause-seats : goal.returns-clause-seats
returns-clause-seats g c =
    let before = c.loop-account.invariant in
    let all = all_given c.loop-account.yielded _ _ _ before.all before.left c.in-None.ensures.steps.0 in
    subst (λ l. HasJoined (map (λ a. a.seat) l) c.args.main.now c.loop-account.main) all before.seats

pub loop-account-preserved : goal.loop-account-preserved
loop-account-preserved g c =
    let before = c.loop-account.invariant in
    let steps = c.in-Some.ensures.steps in
    let account = c.in-Some.account in
    let given = c.loop-account.yielded in
    let long = ap length steps.0 in
    record {
      all = given_on given _ _ _ _ before.all steps.0;
      left = omega (arith, before.left, steps.1, long);
      ends = items_more given account (λ a. a.end) _ _ _ c.in-Ok.ensures.ok before.ends refl;
      lists = items_more given account (λ a. a.mine) _ _ _ c.in-Ok-push.ensures.ok before.lists refl;
      origins = both_more c.loop-account.sources.items _ _ given account
          (λ s. origin_of (g.S.Source.name s) (g.S.Source.whole s)) (λ a. a.pump.origin)
          c.push_reserved.ensures.items before.origins
          (λ i. origin_of (c.into_source.ensures.name i) (c.into_source.ensures.whole i));
      givens = both_more c.loop-account.sources.items _ _ given account (λ s. g.S.Source.given s) (λ a. a.pump.given)
          c.push_reserved.ensures.items before.givens c.into_source.ensures.given;
      endeds = both_more c.loop-account.sources.items _ _ given account (λ s. g.S.Source.ended s) (λ a. a.pump.ended)
          c.push_reserved.ensures.items before.endeds c.into_source.ensures.ended;
      faults = both_more c.loop-account.sources.items _ _ given account (λ s. g.S.Source.read_faults s)
          (λ a. a.pump.faults) c.push_reserved.ensures.items before.faults c.into_source.ensures.faults;
      wires = items_more given account (λ a. a.wire) _ _ _ c.push_reserved-in-loop-account.ensures.items before.wires
          refl;
      seats = subst (λ l. HasJoined l c.args.main.now c.join.new.into)
          (sym (map-append (λ a. a.seat) given (account ∷ [])))
          (joins_more _ _ c.loop-account.main account.seat c.join.new.into before.seats c.join.ensures.joined);
      end_room = omega (arith, before.end_room, long, c.push.ensures.spare);
      list_room = omega (arith, before.list_room, long, c.push-in-loop-account.ensures.spare);
      source_room = omega (
        arith,
        before.source_room,
        long,
        c.push_reserved.ensures.len,
        c.push_reserved.ensures.capacity,
      );
      wire_room = omega (
        arith,
        before.wire_room,
        long,
        c.push_reserved-in-loop-account.ensures.len,
        c.push_reserved-in-loop-account.ensures.capacity,
      );
    }
