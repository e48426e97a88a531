use Rattle.std.proofs.Common.{rules, arith, ap, sym, ◌∙◌, ◌<◌, length, subst, All, set, Some}
use Rattle.std.proofs.lemmas.List.Elements.{All-rest}
use Rattle.work_queue.specs.declared.hand.Done.{Done}
use Rattle.work_queue.proofs.Placing.{placed-more, placed-length, all-first}
use Rattle.work_queue.proofs.slots.place.Goals as goal

pub loop-number-init : goal.loop-number-init
loop-number-init g c = record {
  slots = search rules;
  rest = subst (All (λ (d : Done g.row.X.Denot). d.number < length c.args.slots.now))
      (sym c.into_iter-number-iterator.ensures.into_iter_gives.0) c.requires;
}

pub fill-requires : goal.fill-requires
fill-requires g c =
    let before = c.loop-number.invariant in
    let steps = c.in-Some.ensures.steps.0 in
    let here = all-first (λ (d : Done g.row.X.Denot). d.number < length c.args.slots.now) _ _ _ before.rest steps in
    omega (arith, here, ap length before.slots, placed-length c.args.slots.now c.loop-number.yielded)

pub loop-number-preserved : goal.loop-number-preserved
loop-number-preserved g c =
    let before = c.loop-number.invariant in
    let steps = c.in-Some.ensures.steps.0 in
    record {
      slots = c.fill.ensures ∙ ap (λ t. set t c.in-Some.field-0.number (Some c.in-Some.field-0.result)) before.slots
          ∙ sym (placed-more c.args.slots.now c.loop-number.yielded c.in-Some.field-0);
      rest = All-rest (λ (d : Done g.row.X.Denot). d.number < length c.args.slots.now) _ _ _ steps before.rest;
    }
