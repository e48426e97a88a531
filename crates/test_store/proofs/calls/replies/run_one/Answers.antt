use Rattle.std.proofs.Common.{ℕ, List, length, ap, arith}
use Rattle.std.proofs.lemmas.List.{length-take, length-drop}
use Rattle.reply_planner.specs.Parcels.{Sent}
use Rattle.test_store.proofs.calls.replies.run_one.Goals as goal

pub give_back-recycled-requires : goal.give_back-recycled-requires
give_back-recycled-requires g c =
    let e = c.in-Ok.ensures.reply in
    let before = c.args.pass.now.free in
    let staged = length c.in-Ok.parcel.staged in
    omega (
      arith,
      ap (λ (l : List ℕ). length l) e.free,
      length-drop staged before,
      ap (λ (l : List ℕ). length l) e.staged,
      length-take staged before,
      ap (λ (p : Sent). length p.staged) c.gather-gathered.ensures,
    )
