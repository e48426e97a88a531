use Rattle.std.proofs.Common.{◌≡◌, ◌++◌, ◌∷◌, [], length, refl, ap, sym, ◌∙◌, subst, arith}
use Rattle.device_model.proofs.Forwarding.{forwards-on}
use Rattle.session_serve.proofs.Gathering.{gathered-starts}
use Rattle.session_serve.proofs.Calling.{work-starts, work-told, work-bounded, work-longer}
use Rattle.session_serve.proofs.Dumping.{stands-first, in_time-first}
use Rattle.session_serve.proofs.Seeing.{gathered-sees, stopped-sees}
use Rattle.session_serve.proofs.Serving.{forwards-nothing, forwards-as, served-so}
use Rattle.session_serve.proofs.Whole.{whole-start, whole-more, whole-closed, whole-posted}
use Rattle.device_model.specs.Devices.{CanFrame}
use Rattle.session_serve.specs.Dumps.{DumpCame, Stands, as_seeing}
use Rattle.session_serve.specs.Working.{IsWorking}
use Rattle.session_serve.proofs.serve.serve_in_turns.Goals as goal

pub turns-init : goal.turns-init
turns-init g c =
    let first = c.args.link.session in
    let ends = c.both_ends.ensures in
    let fresh = c.requires.fresh in
    let z = g.P.PoolName.sizes in
    let shards = g.N.BookName.sizes.shards in
    let asked = c.args.link.dump.plan in
    record {
      gathered = gathered-starts first c.both_ends.new.session c.args.link.device.end c.both_ends.new.device.end
          fresh.none_posted ends.order.1 c.requires.ring ends.ring
          (ap (λ v. v.completed) ends.device) ends.session;
      unstopped = ap (λ s. s.stopped) ends.session ∙ fresh.unstopped;
      working = (
        [],
        [],
        subst (λ s. IsWorking z shards (as_seeing s.pass.list first) c.args.link.pump.origin c.args.link.pump.faults
            [] [] s c.args.link.pump) (sym ends.session)
            (work-told _ _ first _ _ [] [] first _ c.args.link.pump (work-starts _ _ first c.args.link.pump fresh)),
      );
      plan = c.requires.plan;
      stands = subst (λ s. Stands shards asked asked c.args.link.dump.taken
          first.pass.list s.pass.list) (sym ends.session)
          (subst (λ t. Stands shards asked asked t first.pass.list first.pass.list)
          (sym c.requires.untried)
          (stands-first shards asked first.pass.list fresh.none_told));
      in_time = in_time-first shards asked (length c.both_ends.new.session.posted)
          (ap (λ s. length s.posted) ends.session ∙ ap length fresh.none_posted);
      mtu = refl;
      forwards = forwards-as _ _ _ _ _ _ _ _ _ _ _ _ _ refl (sym (ends.failed ∙ c.requires.unfailed)) refl refl
          (forwards-nothing _ _ _ _ [] c.both_ends.new.session.posted c.args.wire
          (ap (λ s. s.posted) ends.session ∙ fresh.none_posted));
      whole = whole-start c.args.link.mtu _ _ _ _ _ c.args.wire (ends.failed ∙ c.requires.unfailed)
          (ap (λ s. s.posted) ends.session ∙ fresh.none_posted) refl;
    }

pub turn-after-requires-clause-ready : goal.turn-after-requires-clause-ready
turn-after-requires-clause-ready g c κs within =
    let before = c.turns.invariant in
    let w = before.working in
    record {
      unstopped = before.unstopped;
      few = work-bounded _ _ _ _ _ w.0 w.1 c.turns.link.session c.turns.link.pump w.2;
    }

pub turn-after-requires-clause-mtu : goal.turn-after-requires-clause-mtu
turn-after-requires-clause-mtu g c κs within = subst CanFrame (sym c.turns.invariant.mtu) c.requires.mtu

pub turns-smaller : goal.turns-smaller
turns-smaller g c =
    let w = c.turns.invariant.working in
    let call = rw c.in-Ok.is at c.turn-after.ensures.call in
    let more = work-longer _ _ _ _ _ _ w.0 w.1 c.turns.link.session c.turn-after.new.self.session
    c.turns.link.pump c.turn-after.new.self.pump w.2
    (call _ _ _ w.0 w.1 w.2) in
    omega (arith, more.0, more.1)

pub turns-preserved : goal.turns-preserved
turns-preserved g c =
    let before = c.turns.invariant in
    let w = before.working in
    let call = rw c.in-Ok.is at c.turn-after.ensures.call in
    let unstopped = rw c.in-Ok.is at c.turn-after.ensures.unstopped in
    let sent = rw (c.in-Ok.is, before.mtu) at c.turn-after.ensures.sent in
    let forwards = rw before.mtu at c.turn-after.ensures.forwards in
    let more = call _ _ _ w.0 w.1 w.2 in
    let in_time = rw c.in-Ok.is at c.turn-after.ensures.in_time in
    record {
      gathered = c.turn-after.ensures.gathered;
      unstopped = unstopped ∙ before.unstopped;
      working = (w.0 ++ more.command ∷ [], w.1 ++ more.outcomes ∷ [], more.working);
      plan = c.turn-after.ensures.plan;
      stands = c.turn-after.ensures.stands c.args.link.dump.plan c.args.link.session.pass.list before.stands
          before.in_time;
      in_time = in_time c.args.link.dump.plan c.args.link.session.pass.list before.stands before.in_time;
      mtu = c.turn-after.ensures.mtu ∙ before.mtu;
      forwards = forwards-on _ _ _ _ _ _ _ _ _ _ _ _ before.forwards forwards;
      whole = whole-more c.args.link.mtu _ _ _ _ _ _ _ _ _ c.args.wire _ _ before.whole sent c.counted-sent.ensures;
    }

pub returns-clause-served : goal.returns-clause-served
returns-clause-served g c =
    let before = c.turns.invariant in
    let w = before.working in
    let first = c.args.link.session in
    let end = rw c.in-Err.is at c.turn-after.ensures.end in
    let none = rw (c.in-Err.is, before.mtu) at c.turn-after.ensures.none_sent in
    let forwards = rw before.mtu at c.turn-after.ensures.forwards in
    let stopped = stopped-sees _ _ _ _ _ _ c.turn-after.new.self.session c.take.new.session _ c.take.ensures.session
    (end _ _ _ w.0 w.1 w.2) in
    let same : c.take.new.session.posted ≡ c.turn-after.new.self.session.posted =
    ap (λ s. s.posted) c.take.ensures.session.rest in
    served-so _ _ _ _ _ first c.take.new.session c.args.link.pump c.turn-after.new.self.pump c.in-Err.end
    c.close.result.1.end _ c.turn-after.new.self.device.failed
    c.close.result.1.seat c.close.result.1.mine _ _ c.args.wire c.turn-after.result.0 c.close.result.0 c.requires.fresh
    stopped c.close.ensures.left c.close.ensures.end
    (ap (λ p. p.given) c.close.ensures.pump) (ap (λ p. p.ended) c.close.ensures.pump)
    (forwards-as _ _ _ _ _ _ _ _ _ _ _ _ _ refl refl refl (sym same)
    (forwards-on _ _ _ _ _ _ _ _ _ _ _ _ before.forwards forwards)) c.close.ensures.flushed
    (whole-posted c.args.link.mtu _ _ _ c.take.new.session.posted c.turn-after.new.self.session.posted _ _ _ (sym same)
    (whole-closed c.args.link.mtu _ _ _ _ _ _ _ _ _ c.args.wire _ _ _ before.whole none c.close.ensures.flushed
    c.close.ensures.sent))

pub close-requires-clause-gathered : goal.close-requires-clause-gathered
close-requires-clause-gathered g c κs within =
    gathered-sees _ _ _ c.take.ensures.session c.turn-after.ensures.gathered

pub returns-clause-origin : goal.returns-clause-origin
returns-clause-origin g c =
    let w = c.turns.invariant.working in
    let end = rw c.in-Err.is at c.turn-after.ensures.end in
    let stopped = stopped-sees _ _ _ _ _ _ c.turn-after.new.self.session c.take.new.session _ c.take.ensures.session
    (end _ _ _ w.0 w.1 w.2) in
    ap (λ p. p.origin) c.close.ensures.pump ∙ stopped.origin_is

pub returns-clause-reads : goal.returns-clause-reads
returns-clause-reads g c =
    let w = c.turns.invariant.working in
    let end = rw c.in-Err.is at c.turn-after.ensures.end in
    let stopped = stopped-sees _ _ _ _ _ _ c.turn-after.new.self.session c.take.new.session _ c.take.ensures.session
    (end _ _ _ w.0 w.1 w.2) in
    rw (ap (λ e. e.end) c.close.ensures.end, ap (λ p. p.faults) c.close.ensures.pump) stopped.faults_are

pub returns-clause-to_the_end : goal.returns-clause-to_the_end
returns-clause-to_the_end g c =
    let w = c.turns.invariant.working in
    let end = rw c.in-Err.is at c.turn-after.ensures.end in
    let stopped = stopped-sees _ _ _ _ _ _ c.turn-after.new.self.session c.take.new.session _ c.take.ensures.session
    (end _ _ _ w.0 w.1 w.2) in
    rw (ap (λ e. e.end) c.close.ensures.end) stopped.to_the_end

pub returns-clause-credits : goal.returns-clause-credits
returns-clause-credits g c =
    let w = c.turns.invariant.working in
    let end = rw c.in-Err.is at c.turn-after.ensures.end in
    let stopped = stopped-sees _ _ _ _ _ _ c.turn-after.new.self.session c.take.new.session _ c.take.ensures.session
    (end _ _ _ w.0 w.1 w.2) in
    c.close.ensures.left.credits ∙ ap (λ v. v.credits) stopped.same.opened

pub returns-clause-dump : goal.returns-clause-dump
returns-clause-dump g c =
    let before = c.turns.invariant in
    let first = c.args.link.session.pass.list in
    let asked = c.args.link.dump.plan in
    subst (λ t. DumpCame g.N.BookName.sizes.shards asked t first c.close.result.1.mine) (sym c.close.ensures.dump)
    (subst (λ l. DumpCame g.N.BookName.sizes.shards asked c.take.new.self.taken first l) (sym c.close.ensures.left.list)
    (c.take.ensures.came asked first (c.turn-after.ensures.stands asked first before.stands before.in_time)))
