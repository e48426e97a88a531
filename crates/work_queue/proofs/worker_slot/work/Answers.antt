use Rattle.std.proofs.Common.{
  rules,
  of_calls,
  arith,
  ◌≡◌,
  ◌++◌,
  [],
  ◌∷◌,
  map,
  ap,
  sym,
  ◌∙◌,
  subst,
  append_assoc,
}
use Rattle.std.proofs.lemmas.List.{map-append}
use Rattle.crossbeam_queue.specs.Passes.{view}
use Rattle.work_queue.specs.Dealt.{Given, IsAt}
use Rattle.work_queue.specs.declared.hand.Done.{Done}
use Rattle.work_queue.specs.declared.hand.Hand.{Hand}
use Rattle.work_queue.proofs.Deals.{pops, learns, given-more}
use Rattle.work_queue.proofs.Placing.{all-at}
use Rattle.work_queue.proofs.worker_slot.work.Goals as goal

pub pop_as-requires-clause-rule : goal.pop_as-requires-clause-rule
pop_as-requires-clause-rule g c = (
  pops _ _ (omega (arith, c.requires.parts, c.loop.invariant.parts)),
  learns _ _,
)

pub f-result-requires : goal.f-result-requires
f-result-requires g c =
    let said = c.in-Some-pop_as.ensures.rule in
    let number = c.in-Some-pop_as.field-0.number in
    let job = c.in-Some-pop_as.field-0.job in
    let there = subst (λ t. IsAt t number job) c.loop.invariant.all said.1 in
    let may : g.row.T.Denot → Type 0 = λ x. goal.F-pre g c.args.f.now x in
    all-at may (view c.args.worker_slot.now.pass).all number job c.requires.calls there

pub loop-preserved : goal.loop-preserved
loop-preserved g c =
    let before = c.loop.invariant in
    let said = c.in-Some-pop_as.ensures.rule in
    let number = c.in-Some-pop_as.field-0.number in
    let job = c.in-Some-pop_as.field-0.job in
    let taken = (view c.args.worker_slot.now.pass).taken in
    let done = c.loop.worker_slot.done.items in
    let this : Done g.row.X.Denot = record { number = number; result = c.f-result.result } in
    let more : c.push_reserved.new.self.items ≡ done ++ this ∷ [] = search rules in
    let numbers =
    ap (map (λ (d : Done g.row.X.Denot). d.number)) more
    ∙ map-append (λ (d : Done g.row.X.Denot). d.number) done (this ∷ []) in
    let there = subst (λ t. IsAt t number job) before.all said.1 in
    record {
      pass = search rules;
      parts = ap (λ (v : Hand g.row.T.Denot). v.parts) said.0 ∙ before.parts;
      all = ap (λ (v : Hand g.row.T.Denot). v.all) said.0 ∙ before.all;
      numbers = ap (λ (v : Hand g.row.T.Denot). v.taken) said.0 ∙ ap (λ t. t ++ number ∷ []) before.numbers
          ∙ append_assoc taken (map (λ (d : Done g.row.X.Denot). d.number) done) (number ∷ [])
          ∙ ap (λ t. taken ++ t) (sym numbers);
      given = subst (Given _ _) (sym more)
          (given-more _ _ done this job before.given there (search of_calls));
      room = search rules;
    }
