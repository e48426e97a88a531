use Rattle.std.proofs.Common.{◌≡◌, ◌∷◌, [], length, ap, ◌∙◌, arith}
use Rattle.frag_value.specs.Taken.{copied}
use Rattle.reply_layout.specs.Gathered.{text_of_pieces}
use Rattle.reply_planner.specs.Laid.{pieces_in}
use Rattle.reply_planner.specs.Planned.{Planned}
use Rattle.reply_planner.proofs.Grown.{text-more}
use Rattle.test_replies.proofs.plans.copy_nulls.Goals as goal

pub loop-preserved : goal.loop-preserved
loop-preserved g c =
    let i = c.loop.invariant in
    let e = c.copy.ensures in
    record {
      none = ap (λ (p : Planned). p.begun) e.plan;
      base = ap (λ (p : Planned). p.base) e.plan ∙ i.base;
      room = omega (arith, e.room (omega arith), i.room);
      more = omega (
        arith,
        i.more,
        ap (λ (p : Planned). length (text_of_pieces (pieces_in p.taken))) e.plan,
        text-more
            c.loop.plan.taken (copied (36 ∷ 45 ∷ 49 ∷ 13 ∷ 10 ∷ []) ∷ []),
      );
    }
