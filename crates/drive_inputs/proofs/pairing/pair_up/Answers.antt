use Rattle.std.proofs.Common.{◌≡◌, [], ◌∷◌, ◌++◌, Some, map, length, refl, ap, sym, ◌∙◌, append-nil, arith}
use Rattle.std.proofs.lemmas.List.{nil_from_length}
use Rattle.std.specs.Vec.Iter.{into_iter_items}
use Rattle.command_pump.specs.Pump.{origin_of}
use Rattle.session_pass.specs.Fresh.{IsFresh}
use Rattle.drive_script.specs.Driving.{driving_of, IsNew}
use Rattle.run_resources.specs.Opened.{IsSessionSlot}
use Rattle.run_resources.proofs.Lists.{all_of_none, all_as, all_more, all_first, all_rest, all_given, given_on}
use Rattle.run_resources.proofs.Lists.{moves_on}
use Rattle.run_resources.proofs.Lists.{both_more}
use Rattle.drive_inputs.proofs.Beginning.{new_driving}
use Rattle.drive_inputs.proofs.pairing.pair_up.Goals as goal

pub loop-slot-init : goal.loop-slot-init
loop-slot-init g c =
    let gives = c.into_iter-slot-iterator.ensures.into_iter_gives in
    let long = ap length gives.0 in
    let none = c.requires.room.0 in
    let sources = c.into_iter-more_sources.ensures.rest in
    let wires = c.into_iter-more_wires.ensures.rest in
    record {
      all = gives.0;
      left = omega (arith, gives.1, long, c.args.slots.ok.0);
      fresh = all_of_none c.args.drivings.items (λ d. IsNew g.P.PoolName.sizes (driving_of d.connection.session
          d.connection.device.failed d.connection.device.end d.asking.kept d.asking.end d.asking.pump d.wire)
          × IsFresh g.P.PoolName.sizes d.connection.session d.asking.pump) none;
      sessions = rw none refl;
      origins = rw none (ap (map (λ s. origin_of (g.S.Source.name s) (g.S.Source.whole s))) sources);
      unread = all_as _ c.args.sources.items (λ s. g.S.Source.given s ≡ []) sources c.requires.unread;
      faults = rw none (ap (map (λ s. g.S.Source.read_faults s)) sources);
      wires = rw none (ap (map Some) wires);
      rest = all_as _ c.args.slots.items
          (λ d. IsSessionSlot g.P.PoolName.sizes d.session d.device.end d.device.failed)
          gives.0 c.requires.slots;
      source_count = omega (arith, long, ap length sources, c.requires.sources);
      wire_count = omega (arith, long, ap length wires, c.requires.wires);
      room = omega (arith, long, c.requires.room.1, ap length none, c.args.drivings.ok.0);
    }

pub loop-slot-preserved : goal.loop-slot-preserved
loop-slot-preserved g c =
    let z = g.P.PoolName.sizes in
    let before = c.loop-slot.invariant in
    let drivings = c.loop-slot.drivings.items in
    let slot = c.in-Some.slot in
    let steps = c.in-Some.ensures.steps in
    let items = c.push_reserved.ensures.items in
    let sources = c.in-Some-next.ensures.items in
    let wires = c.in-Some-next-2.ensures.items in
    let own = c.new-pump.ensures.source in
    let is = all_first _ _ slot (λ d. IsSessionSlot z d.session d.device.end d.device.failed) steps.0
    before.rest in
    record {
      all = given_on c.loop-slot.yielded _ _ _ _ before.all steps.0;
      left = omega (arith, before.left, steps.1, ap length steps.0);
      fresh = all_more drivings _ _
          (λ d. IsNew z (driving_of d.connection.session d.connection.device.failed d.connection.device.end
          d.asking.kept
          d.asking.end d.asking.pump d.wire) × IsFresh z d.connection.session d.asking.pump) items before.fresh
          (new_driving z slot.session slot.device.end slot.device.failed c.new-pump.result _ _
          c.in-Some-next-2.wire is
          c.new-pump.ensures.pump own.0 own.2);
      sessions = both_more drivings _ _ c.loop-slot.yielded slot (λ d. d.connection.session)
          (λ d. d.session) items
          before.sessions refl;
      origins = moves_on drivings _ _ (λ d. d.asking.pump.origin) _ _ _ items
          (ap (map (λ s. origin_of (g.S.Source.name s) (g.S.Source.whole s))) sources
          ∙ ap (λ l. l ∷ map (λ s. origin_of (g.S.Source.name s) (g.S.Source.whole s))
          (into_iter_items c.next-in-loop-slot.new.self)) (sym c.new-pump.ensures.pump.origin_is))
          before.origins;
      unread = all_rest _ _ c.in-Some-next.source (λ s. g.S.Source.given s ≡ []) sources before.unread;
      faults = moves_on drivings _ _ (λ d. d.asking.pump.faults) _ _ _ items
          (ap (map (λ s. g.S.Source.read_faults s)) sources
          ∙ ap (λ l. l ∷ map (λ s. g.S.Source.read_faults s) (into_iter_items c.next-in-loop-slot.new.self))
          (sym own.2))
          before.faults;
      wires = moves_on drivings _ _ (λ d. d.wire) _ _ _ items (ap (map Some) wires) before.wires;
      rest = all_rest _ _ slot (λ d. IsSessionSlot z d.session d.device.end d.device.failed) steps.0
          before.rest;
      source_count = omega (arith, before.source_count, ap length sources, ap length steps.0);
      wire_count = omega (arith, before.wire_count, ap length wires, ap length steps.0);
      room = omega (
        arith,
        before.room,
        ap length steps.0,
        c.push_reserved.ensures.len,
        c.push_reserved.ensures.capacity,
      );
    }

pub returns-clause-sessions : goal.returns-clause-sessions
returns-clause-sessions g c =
    let before = c.loop-slot.invariant in
    before.sessions ∙ ap (map (λ d. d.session))
    (all_given c.loop-slot.yielded _ c.args.slots.items _ before.all before.left
    c.in-None.ensures.steps.0)

pub new-pump-requires : goal.new-pump-requires
new-pump-requires g c = all_first _ _ c.in-Some-next.source (λ s. g.S.Source.given s ≡ []) c.in-Some-next.ensures.items
    c.loop-slot.invariant.unread

pub returns-clause-origins : goal.returns-clause-origins
returns-clause-origins g c =
    let before = c.loop-slot.invariant in
    let none = nil_from_length (into_iter_items c.loop-slot.more_sources) (omega (
      arith,
      before.source_count,
      before.left,
      c.in-None.ensures.steps.0,
    )) in
    sym (append-nil _)
    ∙ ap (λ l. map (λ d. d.asking.pump.origin) c.loop-slot.drivings.items
    ++ map (λ s. origin_of (g.S.Source.name s) (g.S.Source.whole s)) l) (sym none) ∙ before.origins

pub returns-clause-faults : goal.returns-clause-faults
returns-clause-faults g c =
    let before = c.loop-slot.invariant in
    let none = nil_from_length (into_iter_items c.loop-slot.more_sources) (omega (
      arith,
      before.source_count,
      before.left,
      c.in-None.ensures.steps.0,
    )) in
    sym (append-nil _)
    ∙ ap (λ l. map (λ d. d.asking.pump.faults) c.loop-slot.drivings.items
    ++ map (λ s. g.S.Source.read_faults s) l)
    (sym none) ∙ before.faults
