use Rattle.std.proofs.Common.{[], ◌∷◌, Some, All, ap, sym, subst, length, length-append, arith}
use Rattle.std.proofs.lemmas.List.Elements.{All-push, All-pop}
use Rattle.run_resources.specs.Passing.{IsNewList}
use Rattle.run_resources.proofs.Passes.{turned_on}
use Rattle.run_resources.proofs.passing.turned.Goals as goal

pub loop-mine-preserved : goal.loop-mine-preserved
loop-mine-preserved g c =
    let before = c.loop-mine.invariant in
    let split = c.in-Some.ensures.some in
    let items = c.in-Ok.ensures.ok in
    let popped = All-pop IsNewList _ _ (Some c.in-Some.mine) split before.new in
    let longer = length-append c.loop-mine.turned.items (c.in-Some.mine ∷ []) in
    record {
      lists = turned_on _ _ _ c.in-Some.mine c.loop-mine.turned.items _ before.lists split items;
      new = popped.0;
      turned = subst (All IsNewList) (sym items) (All-push IsNewList c.loop-mine.turned.items c.in-Some.mine
          before.turned popped.1);
      count = omega (
        arith,
        before.count,
        ap length split,
        ap length items,
        longer,
        length-append c.pop.new.self.items (c.in-Some.mine ∷ []),
      );
      room = omega (
        arith,
        before.room,
        c.push.ensures.spare,
        ap length split,
        length-append c.pop.new.self.items (c.in-Some.mine ∷ []),
      );
    }
