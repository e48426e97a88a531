use Rattle.std.proofs.Common.{◌≡◌, ℕ, List, length, drop, ap, arith}
use Rattle.std.proofs.lemmas.List.{length-take, length-drop}
use Rattle.reply_planner.specs.Sealed.{used_of}
use Rattle.reply_planner.proofs.Merged.{length-merged}
use Rattle.test_replies.proofs.making.seal.Goals as goal

pub invariant_of-result : goal.invariant_of-result
invariant_of-result g c =
    let plan = c.args.plan in
    let used = used_of plan in
    let e = c.seal-parcel.ensures in
    record {
      room = omega (
        arith,
        c.requires.room,
        ap (λ (l : List ℕ). length l) e.stage,
        length-merged (drop used plan.base.stage) c.args.stage,
        length-drop used plan.base.stage,
        ap (λ (l : List ℕ). length l) e.parcel.staged,
        length-take used plan.base.stage,
      );
      own = e.own;
    }
