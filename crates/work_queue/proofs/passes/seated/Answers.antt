use Rattle.std.proofs.Common.{rules, arith, ◌∷◌, [], All, length, ap, sym, refl, ◌∙◌, subst, length-append}
use Rattle.std.proofs.lemmas.List.Elements.{All-push, All-rest}
use Rattle.crossbeam_queue.specs.Passes.{view}
use Rattle.work_queue.specs.Room.{IsRoomy}
use Rattle.work_queue.specs.Work.{IsNew}
use Rattle.work_queue.specs.declared.worker_slot.WorkerSlot.{WorkerSlot}
use Rattle.work_queue.specs.declared.hand.Hand.{Hand}
use Rattle.work_queue.proofs.Deals.{forks}
use Rattle.work_queue.proofs.Placing.{all-first}
use Rattle.work_queue.proofs.passes.seated.Goals as goal

pub loop-done-init : goal.loop-done-init
loop-done-init g c =
    let items = sym c.into_iter-done-iterator.ensures.into_iter_gives.0 in
    record {
      lent = record { pass = search rules; parts = omega arith; all = refl; taken = refl };
      len = search rules;
      count = search rules;
      room = search rules;
      worker_slots = search rules;
      rest = subst (All (IsRoomy (length (view c.args.pass.now).all))) items c.requires.dones;
    }

pub another-mine-requires-clause-rule : goal.another-mine-requires-clause-rule
another-mine-requires-clause-rule g c =
    let before = c.loop-done.invariant in
    forks _ _ (omega (arith, before.lent.parts, before.count, ap length c.in-Some.ensures.steps.0, c.requires.pass))

pub loop-done-preserved : goal.loop-done-preserved
loop-done-preserved g c =
    let left = c.another-mine.ensures.rule.0 in
    let right = c.another-mine.ensures.rule.1 in
    let before = c.loop-done.invariant in
    let steps = c.in-Some.ensures.steps.0 in
    let all = (view c.args.pass.now).all in
    let longer = length-append c.loop-done.yielded (c.in-Some.done ∷ []) in
    let worker_slot : WorkerSlot g.row.T.Denot g.row.X.Denot =
    record { pass = c.another-mine.result; done = c.in-Some.done } in
    let is : IsNew c.args.queue.now all worker_slot = record {
      pass = search rules;
      is = right ∙ ap (λ a. record { parts = 1; all = a; taken = [] }) before.lent.all;
      done = all-first (IsRoomy (length all)) _ _ _ before.rest steps;
    } in
    record {
      lent = record {
        pass = search rules;
        parts = (
            let parts = ap (λ (v : Hand g.row.T.Denot). v.parts) left in
            omega (arith, parts, longer, before.lent.parts, before.count, ap length steps, c.requires.pass));
        all = ap (λ (v : Hand g.row.T.Denot). v.all) left ∙ before.lent.all;
        taken = ap (λ (v : Hand g.row.T.Denot). v.taken) left ∙ before.lent.taken;
      };
      len = omega (arith, longer, before.len, c.push_reserved.ensures.len);
      count = omega (arith, longer, before.count, ap length steps);
      room = search rules;
      worker_slots = subst (All (IsNew c.args.queue.now all)) (sym c.push_reserved.ensures.items)
          (All-push (IsNew c.args.queue.now all) c.loop-done.worker_slots.items worker_slot before.worker_slots is);
      rest = All-rest (IsRoomy (length all)) _ _ _ steps before.rest;
    }
