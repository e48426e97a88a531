use Rattle.std.proofs.Common.{ℕ, List, length, ap, arith}
use Rattle.reply_planner.proofs.Merged.{length-merged}
use Rattle.test_replies.proofs.staging.take_back.Goals as goal

pub returns-clause-stage : goal.returns-clause-stage
returns-clause-stage g c =
    omega (
      arith,
      ap (λ (l : List ℕ). length l) c.give_back.ensures.stage,
      length-merged c.args.parcel.staged c.args.stage.now,
    )

pub returns-clause-credits : goal.returns-clause-credits
returns-clause-credits g c = omega (arith, c.give_back.ensures.seat.credits, c.requires.unpaid)
