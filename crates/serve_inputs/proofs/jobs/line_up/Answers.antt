use Rattle.std.proofs.Common.{◌≡◌, [], ◌∷◌, ◌++◌, None, map, length, refl, ap, sym, ◌∙◌, append-nil, arith}
use Rattle.std.proofs.lemmas.List.{nil_from_length}
use Rattle.std.specs.Vec.Iter.{into_iter_items}
use Rattle.serve_inputs.specs.Jobs.{IsNewJob}
use Rattle.run_resources.specs.Opened.{IsSessionSlot}
use Rattle.run_resources.proofs.Lists.{all_of_none, all_as, all_more, all_first, all_rest, all_given, given_on}
use Rattle.run_resources.proofs.Lists.{moves_on}
use Rattle.run_resources.proofs.Lists.{both_more}
use Rattle.serve_inputs.proofs.NewJobs.{new_job}
use Rattle.serve_inputs.proofs.jobs.line_up.Goals as goal

pub loop-slot-init : goal.loop-slot-init
loop-slot-init g c =
    let gives = c.into_iter-slot-iterator.ensures.into_iter_gives in
    let long = ap length gives.0 in
    let none = c.requires.room.0 in
    let sources = c.into_iter-more_sources.ensures.rest in
    let wires = c.into_iter-more_wires.ensures.rest in
    record {
      all = gives.0;
      left = omega (arith, gives.1, long, c.args.slots.ok.0);
      fresh = all_of_none c.args.jobs.items (λ job. IsNewJob g.P.PoolName.sizes g.N.BookName.sizes.shards
          job.link.session job.link.pump job.link.device.end job.link.device.failed job.link.mtu job.link.dump.plan
          job.link.dump.taken job.dump_wire) none;
      unasked = all_of_none c.args.jobs.items (λ job. job.link.dump.plan ≡ None) none;
      mtus = all_of_none c.args.jobs.items (λ job. job.link.mtu ≡ c.args.mtu) none;
      sessions = rw none refl;
      names = rw none (ap (map (λ s. g.S.Source.name s)) sources);
      wholes = rw none (ap (map (λ s. g.S.Source.whole s)) sources);
      unread = all_as _ c.args.sources.items (λ s. g.S.Source.given s ≡ []) sources c.requires.unread;
      faults = rw none (ap (map (λ s. g.S.Source.read_faults s)) sources);
      wires = rw none wires;
      rest = all_as _ c.args.slots.items
          (λ d. IsSessionSlot g.P.PoolName.sizes d.session d.device.end d.device.failed)
          gives.0 c.requires.slots;
      source_count = omega (arith, long, ap length sources, c.requires.sources);
      wire_count = omega (arith, long, ap length wires, c.requires.wires);
      room = omega (arith, long, c.requires.room.1, ap length none, c.args.jobs.ok.0);
    }

pub loop-slot-preserved : goal.loop-slot-preserved
loop-slot-preserved g c =
    let z = g.P.PoolName.sizes in
    let shards = g.N.BookName.sizes.shards in
    let before = c.loop-slot.invariant in
    let jobs = c.loop-slot.jobs.items in
    let slot = c.in-Some.slot in
    let steps = c.in-Some.ensures.steps in
    let items = c.push_reserved.ensures.items in
    let sources = c.in-Some-next.ensures.items in
    let wires = c.in-Some-next-2.ensures.items in
    let own = c.new-pump.ensures.source in
    let origin = c.new-pump.ensures.pump.origin_is in
    let is = all_first _ _ slot (λ d. IsSessionSlot z d.session d.device.end d.device.failed) steps.0
    before.rest in
    record {
      all = given_on c.loop-slot.yielded _ _ _ _ before.all steps.0;
      left = omega (arith, before.left, steps.1, ap length steps.0);
      fresh = all_more jobs _ _ (λ job. IsNewJob z shards job.link.session job.link.pump job.link.device.end
          job.link.device.failed job.link.mtu job.link.dump.plan job.link.dump.taken job.dump_wire) items before.fresh
          (new_job z shards slot.session slot.device.end slot.device.failed _ c.new-pump.result _ _ _ _ None is
          c.new-pump.ensures.pump own.0 own.2 c.new-dump.ensures.plan c.new-dump.ensures.taken refl c.requires.mtu);
      mtus = all_more jobs _ _ (λ job. job.link.mtu ≡ c.args.mtu) items before.mtus refl;
      unasked = all_more jobs _ _ (λ job. job.link.dump.plan ≡ None) items before.unasked c.new-dump.ensures.plan;
      sessions = both_more jobs _ _ c.loop-slot.yielded slot (λ job. job.link.session)
          (λ d. d.session) items
          before.sessions refl;
      names = moves_on jobs _ _ (λ job. job.link.pump.origin.name) _ _ _ items
          (ap (map (λ s. g.S.Source.name s)) sources
          ∙ ap (λ l. l ∷ map (λ s. g.S.Source.name s) (into_iter_items c.next-in-loop-slot.new.self))
          (ap (λ o. o.name) (sym origin)))
          before.names;
      wholes = moves_on jobs _ _ (λ job. job.link.pump.origin.whole) _ _ _ items
          (ap (map (λ s. g.S.Source.whole s)) sources
          ∙ ap (λ l. l ∷ map (λ s. g.S.Source.whole s) (into_iter_items c.next-in-loop-slot.new.self))
          (ap (λ o. o.whole) (sym origin)))
          before.wholes;
      unread = all_rest _ _ _ (λ s. g.S.Source.given s ≡ []) sources before.unread;
      faults = moves_on jobs _ _ (λ job. job.link.pump.faults) _ _ _ items
          (ap (map (λ s. g.S.Source.read_faults s)) sources
          ∙ ap (λ l. l ∷ map (λ s. g.S.Source.read_faults s) (into_iter_items c.next-in-loop-slot.new.self))
          (sym own.2))
          before.faults;
      wires = moves_on jobs _ _ (λ job. job.wire) _ _ _ items wires before.wires;
      rest = all_rest _ _ slot (λ d. IsSessionSlot z d.session d.device.end d.device.failed) steps.0
          before.rest;
      source_count = omega (arith, before.source_count, ap length sources, ap length steps.0);
      wire_count = omega (arith, before.wire_count, ap length wires, ap length steps.0);
      room = omega (
        arith,
        before.room,
        ap length steps.0,
        c.push_reserved.ensures.len,
        c.push_reserved.ensures.capacity,
      );
    }

pub returns-clause-sessions : goal.returns-clause-sessions
returns-clause-sessions g c =
    let before = c.loop-slot.invariant in
    before.sessions ∙ ap (map (λ d. d.session))
    (all_given c.loop-slot.yielded _ c.args.slots.items _ before.all before.left
    c.in-None.ensures.steps.0)

pub returns-clause-names : goal.returns-clause-names
returns-clause-names g c =
    let before = c.loop-slot.invariant in
    let none = nil_from_length (into_iter_items c.loop-slot.more_sources) (omega (
      arith,
      before.source_count,
      before.left,
      c.in-None.ensures.steps.0,
    )) in
    sym (append-nil _)
    ∙ ap (λ l. map (λ job. job.link.pump.origin.name) c.loop-slot.jobs.items ++ map (λ s. g.S.Source.name s) l)
    (sym none)
    ∙ before.names

pub returns-clause-wholes : goal.returns-clause-wholes
returns-clause-wholes g c =
    let before = c.loop-slot.invariant in
    let none = nil_from_length (into_iter_items c.loop-slot.more_sources) (omega (
      arith,
      before.source_count,
      before.left,
      c.in-None.ensures.steps.0,
    )) in
    sym (append-nil _)
    ∙ ap (λ l. map (λ job. job.link.pump.origin.whole) c.loop-slot.jobs.items ++ map (λ s. g.S.Source.whole s) l)
    (sym none)
    ∙ before.wholes

pub new-pump-requires : goal.new-pump-requires
new-pump-requires g c =
    all_first _ _ c.in-Some-next.source (λ s. g.S.Source.given s ≡ []) c.in-Some-next.ensures.items
    c.loop-slot.invariant.unread

pub returns-clause-faults : goal.returns-clause-faults
returns-clause-faults g c =
    let before = c.loop-slot.invariant in
    let none = nil_from_length (into_iter_items c.loop-slot.more_sources) (omega (
      arith,
      before.source_count,
      before.left,
      c.in-None.ensures.steps.0,
    )) in
    sym (append-nil _)
    ∙ ap (λ l. map (λ job. job.link.pump.faults) c.loop-slot.jobs.items
    ++ map (λ s. g.S.Source.read_faults s) l)
    (sym none) ∙ before.faults
