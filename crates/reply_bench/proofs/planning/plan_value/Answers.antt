use Rattle.std.proofs.Common.{◌++◌, drop, sym, ap, ◌∙◌, subst}
use Rattle.pinned_pool.specs.declared.view.View.{View}
use Rattle.frag_value.proofs.Unmarked.{has_unmarked}
use Rattle.reply_planner.specs.Owned.{AreOwn}
use Rattle.reply_planner.specs.Planned.{Planned}
use Rattle.reply_planner.specs.declared.terms.Terms.{Terms}
use Rattle.reply_planner.proofs.Grown.{lent_own}
use Rattle.reply_bench.proofs.planning.plan_value.Goals as goal

pub seal-requires-clause-own : goal.seal-requires-clause-own
seal-requires-clause-own g c =
    let e = c.in_ok-plan.ensures in
    let hs = c.args.seat.now.holds in
    let s = c.args.stage.now in
    let n = c.values-need.result.stage in
    let base = ap (λ (t : Terms). t.stage) c.hand.ensures.base ∙ ap (λ (p : Planned). p.base.stage) e.plan in
    subst (λ (v : View). AreOwn v.holds (c.start.new.stage ++ c.hand.new.taker.base.stage)) (sym e.seat)
    (subst (λ l. AreOwn hs (l ++ c.hand.new.taker.base.stage)) (sym e.stage)
    (subst (λ l. AreOwn hs (drop n s ++ l)) (sym base) (lent_own hs s n c.requires.desk.own)))

pub returns-clause-value : goal.returns-clause-value
returns-clause-value g c =
    has_unmarked c.args.value.now c.args.owner.now c.hand.new.owner c.hand.ensures.owner c.requires.value
