use Rattle.std.proofs.Common.{◌≡◌, ◌∙◌, arith}
use Rattle.frag_value.proofs.Unmarked.{has_unmarked}
use Rattle.reply_planner.proofs.Grown.{text_whole}
use Rattle.test_replies.proofs.plans.hand_often.Goals as goal

pub loop-preserved : goal.loop-preserved
loop-preserved g c =
    let i = c.loop.invariant in
    let e = c.hand.ensures in
    record {
      none = e.none;
      base = e.base ∙ i.base;
      room = omega (arith, e.room, i.room);
      value = has_unmarked c.args.value.now c.loop.owner c.hand.new.owner e.owner i.value;
      some = λ _. text_whole c.loop.plan.taken c.hand.new.taker.taken _ e.taken;
    }
