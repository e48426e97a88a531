use Rattle.std.proofs.Common.{
  rules,
  arith,
  ◌≡◌,
  ◌+◌,
  ◌<◌,
  ◌∷◌,
  [],
  ◌++◌,
  All,
  length,
  ap,
  sym,
  refl,
  ◌∙◌,
  subst,
  append_assoc,
  append-nil,
}
use Rattle.std.proofs.lemmas.List.Elements.{All-rest}
use Rattle.crossbeam_queue.specs.Passes.{view}
use Rattle.work_queue.specs.Dealt.{hand, joined}
use Rattle.work_queue.specs.Slots.{filled_slots}
use Rattle.work_queue.specs.Work.{HasWorkBelow, parts_of, taken_of, all_done}
use Rattle.work_queue.specs.declared.hand.Done.{Done}
use Rattle.work_queue.specs.declared.hand.Hand.{Hand}
use Rattle.work_queue.proofs.Deals.{merges}
use Rattle.work_queue.proofs.Placing.{all-first, placed-length, placed-both}
use Rattle.work_queue.proofs.Working.{parts-append, taken-append, done-append}
use Rattle.work_queue.proofs.passes.collect.Goals as goal

pub loop-worker_slot-init : goal.loop-worker_slot-init
loop-worker_slot-init g c =
    let old = view c.args.pass.now in
    let parts : old.parts ≡ old.parts + 0 = omega arith in
    record {
      pass = record {
        pass = c.requires.pass.0;
        is = λ i. hand (parts i) old.all (sym (append-nil old.taken) i);
      };
      slots = refl;
      rest = subst (All (HasWorkBelow c.args.queue.now (length c.args.slots.now)))
          (sym c.into_iter-worker_slot-iterator.ensures.into_iter_gives.0) c.requires.worker_slots;
    }

pub absorb-requires-clause-rule : goal.absorb-requires-clause-rule
absorb-requires-clause-rule g c =
    let parts = ap (λ (v : Hand g.row.T.Denot). v.parts) c.loop-worker_slot.invariant.pass.is in
    merges _ _ _ _ (omega (arith, parts, c.requires.pass))

pub absorb-requires-clause-queue : goal.absorb-requires-clause-queue
absorb-requires-clause-queue g c =
    let fits = HasWorkBelow c.args.queue.now (length c.args.slots.now) in
    let this = all-first fits _ _ _ c.loop-worker_slot.invariant.rest c.in-Some.ensures.steps.0 in
    (c.loop-worker_slot.invariant.pass.pass, this.0)

pub place-requires : goal.place-requires
place-requires g c =
    let fits = HasWorkBelow c.args.queue.now (length c.args.slots.now) in
    let this = all-first fits _ _ _ c.loop-worker_slot.invariant.rest c.in-Some.ensures.steps.0 in
    let long = ap length c.loop-worker_slot.invariant.slots ∙ placed-length c.args.slots.now
    (all_done c.loop-worker_slot.yielded) in
    subst (λ n. All (λ (z : Done g.row.X.Denot). z.number < n) c.in-Some.worker_slot.done.items) (sym long) this.1

pub loop-worker_slot-preserved : goal.loop-worker_slot-preserved
loop-worker_slot-preserved g c =
    let before = c.loop-worker_slot.invariant in
    let d = c.in-Some.worker_slot in
    let old = view c.args.pass.now in
    let ys = c.loop-worker_slot.yielded in
    let parts : (old.parts + parts_of ys) + (view d.pass).parts ≡ old.parts + parts_of (ys ++ d ∷ []) =
    omega (arith, parts-append ys (d ∷ [])) in
    let taken : (old.taken ++ taken_of ys) ++ (view d.pass).taken ≡ old.taken ++ taken_of (ys ++ d ∷ []) =
    append_assoc old.taken (taken_of ys) (view d.pass).taken
    ∙ ap (λ t. old.taken ++ (taken_of ys ++ t)) (sym (append-nil (view d.pass).taken))
    ∙ ap (λ t. old.taken ++ t) (sym (taken-append ys (d ∷ []))) in
    let done : all_done ys ++ d.done.items ≡ all_done (ys ++ d ∷ []) =
    ap (λ t. all_done ys ++ t) (sym (append-nil d.done.items)) ∙ sym (done-append ys (d ∷ [])) in
    record {
      pass = record {
        pass = search rules;
        is = c.absorb.ensures.rule ∙ ap (λ v. joined v (view d.pass)) before.pass.is
            ∙ (λ i. hand (parts i) old.all (taken i));
      };
      slots = c.place.ensures ∙ ap (λ t. filled_slots t d.done.items) before.slots
          ∙ sym (placed-both c.args.slots.now (all_done ys) d.done.items) ∙ ap (filled_slots c.args.slots.now) done;
      rest = All-rest (HasWorkBelow c.args.queue.now (length c.args.slots.now)) _ _ _
          c.in-Some.ensures.steps.0 before.rest;
    }
