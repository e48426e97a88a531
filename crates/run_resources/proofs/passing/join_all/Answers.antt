use Rattle.std.proofs.Common.{All, sym, subst, length-append, ◌∷◌, []}
use Rattle.std.proofs.lemmas.List.Elements.{All-head, All-tail}
use Rattle.run_resources.specs.Opened.{IsNewPass}
use Rattle.run_resources.specs.Passing.{HasStages}
use Rattle.run_resources.proofs.Joining.{stages_none, stages_more}
use Rattle.run_resources.proofs.passing.join_all.Goals as goal

pub loop-pass-init : goal.loop-pass-init
loop-pass-init g c =
    let z = g.P.PoolName.sizes in
    record {
      stages = stages_none z c.args.into.now;
      rest = subst (All (IsNewPass z)) (sym c.into_iter-pass-iterator.ensures.into_iter_gives.0) c.requires;
    }

pub loop-pass-preserved : goal.loop-pass-preserved
loop-pass-preserved g c =
    let z = g.P.PoolName.sizes in
    let before = c.loop-pass.invariant in
    let rest = subst (All (IsNewPass z)) c.in-Some.ensures.steps.0 before.rest in
    let longer = length-append c.loop-pass.yielded (c.in-Some.pass ∷ []) in
    record {
      stages = subst (λ n. HasStages z n c.args.into.now c.join.new.into) (sym longer)
          (stages_more z _ c.in-Some.pass _ c.loop-pass.into _ c.join.new.into before.stages
          (All-head (IsNewPass z) _ _ rest) c.close-seat.ensures.seat c.join.ensures.joined);
      rest = All-tail (IsNewPass z) _ _ rest;
    }
