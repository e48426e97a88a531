use Rattle.std.proofs.Common.{ℕ, List, length, drop, ap, arith}
use Rattle.std.proofs.lemmas.List.{length-take, length-drop}
use Rattle.reply_planner.specs.Sealed.{used_of}
use Rattle.reply_planner.proofs.Merged.{length-merged}
use Rattle.card_cases.proofs.planning.seal.Goals as goal

pub returns : goal.returns
returns g c =
    let plan = c.args.plan in
    let used = used_of plan in
    let e = c.seal.ensures in
    record {
      whole = omega (
        arith,
        c.requires.whole,
        ap (λ (l : List ℕ). length l) e.stage,
        length-merged (drop used plan.base.stage) c.args.stage.now,
        length-drop used plan.base.stage,
        ap (λ (l : List ℕ). length l) e.parcel.staged,
        length-take used plan.base.stage,
      );
      own = e.own;
      rich = omega (arith, c.requires.rich, e.seat.credits, e.parcel.paid);
    }
