use Rattle.std.proofs.Common.{◌≡◌, ◌+◌, ◌≤◌, ℕ, List, length, arith, ◌++◌, drop, sym, ap, ◌∙◌, subst}
use Rattle.pinned_pool.specs.declared.view.View.{View}
use Rattle.frag_value.proofs.Cuts.{length-bytes-value}
use Rattle.reply_planner.specs.Owned.{AreOwn}
use Rattle.reply_planner.specs.Planned.{Planned}
use Rattle.reply_planner.specs.declared.terms.Terms.{Terms}
use Rattle.reply_planner.proofs.Grown.{lent_own}
use Rattle.test_replies.proofs.plans.answer_part.Goals as goal

pub send-requires-clause-own : goal.send-requires-clause-own
send-requires-clause-own g c =
    let e = c.in_ok-plan.ensures in
    let hs = c.args.slot.seat.holds in
    let s = c.args.slot.stage in
    let n = c.range.result.stage in
    let base = ap (λ (t : Terms). t.stage) (c.hand_range.ensures.base) ∙ ap (λ (p : Planned). p.base.stage) e.plan in
    subst (λ (v : View). AreOwn v.holds (c.start.new.stage ++ c.hand_range.new.taker.base.stage)) (sym e.seat)
    (subst (λ l. AreOwn hs (l ++ c.hand_range.new.taker.base.stage)) (sym e.stage)
    (subst (λ l. AreOwn hs (drop n s ++ l)) (sym base) (lent_own hs s n c.args.slot.own)))

pub hand_range-requires-clause-within : goal.hand_range-requires-clause-within
hand_range-requires-clause-within g c =
    let w = c.in-Ok.ensures.written in
    omega (
      arith,
      c.requires.within,
      length-bytes-value c.write.new.seat.holds c.in-Ok.value w.has.filled,
      ap
          (λ (l : List ℕ). length l) w.bytes_are,
    )
