use Rattle.std.proofs.Common.{◌++◌, ◌∷◌, [], length, refl, ap, sym, ◌∙◌, subst, arith}
use Rattle.session_serve.specs.Dumps.{DumpCame, Stands}
use Rattle.session_serve.proofs.Calling.{work-starts, work-bounded, work-longer}
use Rattle.session_serve.proofs.Dumping.{stands-first, in_time-first}
use Rattle.session_serve.proofs.Seeing.{stopped-sees}
use Rattle.session_serve.proofs.session_side.SessionSide.run.Goals as goal

pub calls-init : goal.calls-init
calls-init g c =
    let shards = g.N.BookName.sizes.shards in
    let asked = c.args.self.dump.plan in
    let first = c.args.self.session in
    record {
      ring = refl;
      working = ([], [], work-starts _ _ first c.args.self.pump c.requires.fresh);
      plan = c.requires.plan;
      stands = subst (λ t. Stands shards asked asked t first.pass.list first.pass.list) (sym c.requires.untried)
          (stands-first shards asked first.pass.list c.requires.fresh.none_told);
      in_time = in_time-first shards asked (length first.posted) (ap length c.requires.fresh.none_posted);
    }

pub step-requires-clause-few : goal.step-requires-clause-few
step-requires-clause-few g c κs within =
    let w = c.calls.invariant.working in
    work-bounded _ _ _ _ _ w.0 w.1 c.calls.session_side.session c.calls.session_side.pump w.2

pub calls-smaller : goal.calls-smaller
calls-smaller g c =
    let w = c.calls.invariant.working in
    let call = rw c.in_default.is at c.step.ensures.call in
    let more = work-longer _ _ _ _ _ _ w.0 w.1 c.calls.session_side.session c.step.new.self.session
    c.calls.session_side.pump c.step.new.self.pump w.2
    (call _ _ _ w.0 w.1 w.2) in
    omega (arith, more.0, more.1)

pub calls-preserved : goal.calls-preserved
calls-preserved g c =
    let before = c.calls.invariant in
    let w = before.working in
    let call = rw c.in_default.is at c.step.ensures.call in
    let more = call _ _ _ w.0 w.1 w.2 in
    let in_time = rw c.in_default.is at c.step.ensures.in_time in
    record {
      ring = c.step.ensures.ring ∙ before.ring;
      working = (w.0 ++ more.command ∷ [], w.1 ++ more.outcomes ∷ [], more.working);
      plan = c.step.ensures.plan;
      stands = c.step.ensures.stands c.args.self.dump.plan c.args.self.session.pass.list before.stands before.in_time;
      in_time = in_time c.args.self.dump.plan c.args.self.session.pass.list before.stands before.in_time;
    }

pub returns : goal.returns
returns g c =
    let before = c.calls.invariant in
    let w = before.working in
    let end = c.in-Err.ensures.end in
    let asked = c.args.self.dump.plan in
    let list = c.args.self.session.pass.list in
    record {
      session = c.take.new.session;
      stopped = stopped-sees _ _ _ _ _ _ c.step.new.self.session c.take.new.session c.step.new.self.pump
          c.take.ensures.session (end _ _ _ w.0 w.1 w.2);
      left = c.finish-remains.ensures.left;
      replies_are = c.calls-replies.ensures;
      ring = c.finish-remains.ensures.ring ∙ ap (λ v. v.ring) c.take.ensures.session.rest ∙ c.step.ensures.ring
          ∙ before.ring;
      posted = c.finish-remains.ensures.posted;
      dump = subst (λ l. DumpCame g.N.BookName.sizes.shards asked c.take.new.self.taken list l)
          (sym c.finish-remains.ensures.left.list)
          (c.take.ensures.came asked list (c.step.ensures.stands asked list before.stands before.in_time));
    }
