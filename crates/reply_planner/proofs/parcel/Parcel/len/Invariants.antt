use Rattle.std.proofs.Common.{◌≡◌, ◌*◌, ◌≤◌, length, take}
use Rattle.reply_layout.specs.Gathered.{read_all}
use Rattle.reply_planner.specs.Places.{reading}
use Rattle.reply_planner.proofs.parcel.Parcel.len.Given as goal

abbrev pub invariant-loop-seg : goal.invariant-loop-seg
invariant-loop-seg g l =
    (l.sum ≡ length (read_all (reading g.N.PoolName.sizes l.self.holds) (take l.seg-index l.self.segments)))
    × (l.sum ≤ 4096 * l.seg-index)
