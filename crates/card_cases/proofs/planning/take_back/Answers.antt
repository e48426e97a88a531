use Rattle.std.proofs.Common.{ℕ, List, length, ap, arith}
use Rattle.reply_planner.proofs.Merged.{length-merged}
use Rattle.card_cases.proofs.planning.take_back.Goals as goal

pub returns : goal.returns
returns g c =
    let e = c.give_back.ensures in
    record {
      whole = omega (
        arith,
        c.requires.whole,
        ap (λ (l : List ℕ). length l) e.stage,
        length-merged c.args.reply.staged c.args.stage.now,
      );
      own = e.own;
      rich = omega (arith, c.requires.rich, e.seat.credits);
    }
