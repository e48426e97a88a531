use Rattle.std.proofs.Common.{◌++◌, drop, sym, ap, ◌∙◌, subst}
use Rattle.pinned_pool.specs.declared.view.View.{View}
use Rattle.reply_planner.specs.Owned.{AreOwn}
use Rattle.reply_planner.specs.Planned.{Planned}
use Rattle.reply_planner.proofs.Grown.{lent_own}
use Rattle.test_replies.proofs.making.make_line.Goals as goal

pub seal-requires-clause-own : goal.seal-requires-clause-own
seal-requires-clause-own g c =
    let e = c.in_ok-plan.ensures in
    let hs = c.args.seat.now.holds in
    let s = c.args.stage.now in
    let n = c.line.result.stage in
    let base = ap (λ (p : Planned). p.base.stage) c.copy.ensures.plan ∙ ap (λ (p : Planned). p.base.stage) e.plan in
    subst (λ (v : View). AreOwn v.holds (c.start.new.stage ++ c.copy.new.self.base.stage)) (sym e.seat)
    (subst (λ l. AreOwn hs (l ++ c.copy.new.self.base.stage)) (sym e.stage)
    (subst (λ l. AreOwn hs (drop n s ++ l)) (sym base) (lent_own hs s n c.requires.own)))
