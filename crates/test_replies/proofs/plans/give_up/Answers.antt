use Rattle.std.proofs.Common.{◌≡◌, ℕ, List, length, ◌++◌, drop, sym, ap, ◌∙◌, subst, arith}
use Rattle.std.proofs.lemmas.List.{length-take, length-drop}
use Rattle.pinned_pool.specs.declared.view.View.{View}
use Rattle.frag_value.proofs.Unmarked.{has_unmarked}
use Rattle.reply_planner.specs.Owned.{AreOwn}
use Rattle.reply_planner.specs.Planned.{Planned}
use Rattle.reply_planner.specs.declared.terms.Terms.{Terms}
use Rattle.reply_planner.proofs.Grown.{lent_own}
use Rattle.reply_planner.proofs.Merged.{length-merged}
use Rattle.test_replies.proofs.plans.give_up.Goals as goal

pub cancel-requires-clause-own : goal.cancel-requires-clause-own
cancel-requires-clause-own g c =
    let e = c.in_ok-plan.ensures in
    let hs = c.args.slot.seat.holds in
    let s = c.args.slot.stage in
    let n = c.values-need.result.stage in
    let base = ap (λ (t : Terms). t.stage) (c.begin.ensures.base ∙ c.hand.ensures.base)
    ∙ ap (λ (p : Planned). p.base.stage) e.plan in
    subst (λ (v : View). AreOwn v.holds (c.start.new.stage ++ c.begin.new.self.base.stage)) (sym e.seat)
    (subst (λ l. AreOwn hs (l ++ c.begin.new.self.base.stage)) (sym e.stage)
    (subst (λ l. AreOwn hs (drop n s ++ l)) (sym base) (lent_own hs s n c.args.slot.own)))

pub release-requires : goal.release-requires
release-requires g c =
    has_unmarked c.in-Ok.value c.write.new.seat c.hand.new.owner c.hand.ensures.owner c.in-Ok.ensures.written.has

pub invariant_of-result : goal.invariant_of-result
invariant_of-result g c =
    let e = c.in_ok-plan.ensures in
    let s = c.args.slot.stage in
    let n = c.values-need.result.stage in
    let kept = c.begin.ensures.base ∙ c.hand.ensures.base in
    let base = ap (λ (t : Terms). t.stage) kept ∙ ap (λ (p : Planned). p.base.stage) e.plan in
    let descriptors = ap (λ (t : Terms). t.descriptors) kept ∙ ap (λ (p : Planned). p.base.descriptors) e.plan in
    record {
      free = omega (
        arith,
        c.args.slot.free,
        ap (λ (l : List ℕ). length l) c.cancel.ensures.stage,
        length-merged c.begin.new.self.base.stage c.start.new.stage,
        ap (λ (l : List ℕ). length l) base,
        length-take n s,
        ap (λ (l : List ℕ). length l) e.stage,
        length-drop n s,
      );
      own = c.cancel.ensures.own;
      rich = omega (
        arith,
        c.args.slot.rich,
        c.cancel.ensures.seat.credits,
        descriptors,
        ap
            (λ (v : View). v.credits)
            e.seat,
      );
    }
