use Rattle.std.proofs.Common.{◌≡◌, ℕ, List, length, drop, ap, arith}
use Rattle.std.proofs.lemmas.List.{length-take, length-drop}
use Rattle.reply_planner.specs.Parcels.{Sent}
use Rattle.reply_planner.specs.Sealed.{used_of}
use Rattle.reply_planner.proofs.Merged.{length-merged}
use Rattle.test_replies.proofs.plans.send.Goals as goal

pub give_back-lasts-requires-clause-room : goal.give_back-lasts-requires-clause-room
give_back-lasts-requires-clause-room g c =
    let plan = c.args.plan in
    let used = used_of plan in
    omega (
      arith,
      c.requires.room,
      ap (λ (l : List ℕ). length l) c.seal-parcel.ensures.stage,
      length-merged (drop used plan.base.stage) c.args.stage.now,
      length-drop used plan.base.stage,
      ap (λ (p : Sent). length p.staged) c.gather-gathered.ensures,
      ap (λ (l : List ℕ). length l) c.seal-parcel.ensures.parcel.staged,
      length-take used plan.base.stage,
    )
