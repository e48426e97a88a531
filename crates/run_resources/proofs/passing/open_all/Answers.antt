use Rattle.std.proofs.Common.{◌≡◌, ℕ, List, [], ◌∷◌, ◌++◌, Some, All, map, reverse, ap, sym, ◌∙◌, subst, length}
use Rattle.std.proofs.Common.{length-append, arith}
use Rattle.std.proofs.lemmas.List.Elements.{All-push, All-pop}
use Rattle.reply_planner.specs.Stages.{NoneInBoth, StagesAreApart}
use Rattle.command_exec.specs.Passes.{PassView}
use Rattle.run_resources.specs.Opened.{IsNewPass}
use Rattle.run_resources.specs.Passing.{IsNewList}
use Rattle.run_resources.proofs.Passes.{lists_on, stages_on}
use Rattle.run_resources.proofs.passing.open_all.Goals as goal

pub loop-mine-preserved : goal.loop-mine-preserved
loop-mine-preserved g c =
    let before = c.loop-mine.invariant in
    let split = c.in-Some.ensures.some in
    let items = c.push_reserved.ensures.items in
    let pass : PassView = c.compare_with.new.pass in
    let others : List PassView = c.compare_with.new.others.items in
    let stand : others ≡ c.loop-mine.passes.items = c.compare_with.ensures.others in
    let same = c.compare_with.ensures.pass in
    let longer = length-append others (pass ∷ []) in
    let fits : PassView → Type 0 = λ p. IsNewPass g.P.PoolName.sizes p × (p.threshold ≡ c.args.threshold) in
    let apart : PassView → Type 0 = λ p. NoneInBoth pass.stage p.stage in
    record {
      lists = lists_on _ _ _ c.in-Some.mine others _ pass
          (ap (λ (ps : List PassView). map (λ p. p.list) ps ++ reverse c.loop-mine.lists.items) stand ∙ before.lists)
          split
          (same.2 ∙ c.in-Ok.ensures.list) items;
      new = (All-pop IsNewList _ _ (Some c.in-Some.mine) split before.new).0;
      passes = subst (All fits) (sym items)
          (All-push fits others pass (subst (All fits) (sym stand) before.passes)
          (same.0, same.3 ∙ c.in-Ok.ensures.pass.1));
      apart = stages_on others _ pass
          (subst (λ (ps : List PassView). StagesAreApart (map (λ p. p.stage) ps)) (sym stand) before.apart)
          (subst (All apart) (sym stand) (subst (λ (stage : List ℕ). All (λ (p : PassView). NoneInBoth stage p.stage)
          c.loop-mine.passes.items) (sym same.1) c.compare_with.ensures.apart)) items;
      main = c.in-Ok.ensures.main.0;
      credits = omega (arith, before.credits, c.in-Ok.ensures.main.1, ap length stand, ap length items, longer);
      count = omega (
        arith,
        before.count,
        ap length stand,
        ap length split,
        ap length items,
        longer,
        length-append c.pop.new.self.items (c.in-Some.mine ∷ []),
      );
      room = omega (arith, before.room, c.compare_with.ensures.room, c.push_reserved.ensures.capacity);
    }
