use Rattle.std.proofs.Common.{◌≡◌, ◌++◌, drop, sym, ap, ◌∙◌, subst}
use Rattle.pinned_pool.specs.declared.view.View.{View}
use Rattle.frag_value.proofs.Unmarked.{has_unmarked}
use Rattle.reply_planner.specs.Owned.{AreOwn}
use Rattle.reply_planner.specs.Planned.{Planned}
use Rattle.reply_planner.specs.declared.terms.Terms.{Terms}
use Rattle.reply_planner.proofs.Grown.{lent_own}
use Rattle.test_replies.proofs.making.make_range.Goals as goal

pub seal-requires-clause-own : goal.seal-requires-clause-own
seal-requires-clause-own g c =
    let e = c.in_ok-plan.ensures in
    let hs = c.args.slot.seat.holds in
    let s = c.args.slot.stage in
    let n = c.range.result.stage in
    let base = ap (λ (t : Terms). t.stage) (c.hand_range.ensures.base) ∙ ap (λ (p : Planned). p.base.stage) e.plan in
    subst (λ (v : View). AreOwn v.holds (c.start.new.stage ++ c.hand_range.new.taker.base.stage)) (sym e.seat)
    (subst (λ l. AreOwn hs (l ++ c.hand_range.new.taker.base.stage)) (sym e.stage)
    (subst (λ l. AreOwn hs (drop n s ++ l)) (sym base) (lent_own hs s n c.args.slot.own)))

pub returns : goal.returns
returns g c = record {
  value = has_unmarked c.args.value.now c.args.owner.now c.hand_range.new.owner c.hand_range.ensures.owner
      c.requires.value;
}
