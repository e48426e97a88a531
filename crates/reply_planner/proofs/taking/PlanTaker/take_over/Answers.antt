use Rattle.std.proofs.Common.{◌*◌, ◌<◌, ◌≤◌, length, sym, subst, arith}
use Rattle.std.specs.Option.{MatchOption}
use Rattle.pinned_pool.specs.Moves.{front_of}
use Rattle.frag_value.specs.Taken.{MayComeNext, IfFirst, placed_over}
use Rattle.reply_planner.specs.Planned.{Planned, room_of, range_room_of}
use Rattle.reply_planner.specs.Plans.{IsSmall}
use Rattle.reply_planner.proofs.KeptAt.{length-run}
use Rattle.reply_planner.proofs.Runs.{run_rooms}
use Rattle.reply_planner.proofs.taking.PlanTaker.take_over.Goals as goal

pub returns-else-stays-clause-room : goal.returns-else-stays-clause-room
returns-else-stays-clause-room g c =
    let p = c.args.self.now in
    let hs = c.args.owner.now.holds in
    let buf = c.in-Some.frag.hold.buffer in
    let n = c.in-Some.frag.len in
    let first = c.in-Some.ensures.some.0 in
    let filled = subst (λ v. IfFirst (λ q. (0 < q.1) × (q.1 ≤ 8 * length (front_of q.0 hs))) v) first c.requires.filled
    in
    let next = subst (λ v. MatchOption p.begun ⊥ (λ b. IfFirst (λ q. MayComeNext 0 q.1 b) v)) first c.requires.next in
    let threshold = subst (λ (q : Planned). (0 < q.base.threshold) × (q.base.threshold ≤ 512)) c.self.view_is
    c.self.invariant.0.threshold in
    let small = subst (λ (q : Planned). IsSmall q.base.threshold q.begun) c.self.view_is c.self.invariant.0.fits.small
    in
    let both = run_rooms p.base p.taken p.begun (placed_over g.N.PoolName.sizes hs (buf, n)) 0 n threshold next filled.0
    small (length-run 0 n (front_of buf hs) (omega (arith, filled.1))) in
    subst (λ q. room_of c.args.self.now ≤ room_of q) (sym c.copy_over.ensures.plan) both.0

pub returns-else-stays-clause-range_room : goal.returns-else-stays-clause-range_room
returns-else-stays-clause-range_room g c =
    let p = c.args.self.now in
    let hs = c.args.owner.now.holds in
    let buf = c.in-Some.frag.hold.buffer in
    let n = c.in-Some.frag.len in
    let first = c.in-Some.ensures.some.0 in
    let filled = subst (λ v. IfFirst (λ q. (0 < q.1) × (q.1 ≤ 8 * length (front_of q.0 hs))) v) first c.requires.filled
    in
    let next = subst (λ v. MatchOption p.begun ⊥ (λ b. IfFirst (λ q. MayComeNext 0 q.1 b) v)) first c.requires.next in
    let threshold = subst (λ (q : Planned). (0 < q.base.threshold) × (q.base.threshold ≤ 512)) c.self.view_is
    c.self.invariant.0.threshold in
    let small = subst (λ (q : Planned). IsSmall q.base.threshold q.begun) c.self.view_is c.self.invariant.0.fits.small
    in
    let both = run_rooms p.base p.taken p.begun (placed_over g.N.PoolName.sizes hs (buf, n)) 0 n threshold next filled.0
    small (length-run 0 n (front_of buf hs) (omega (arith, filled.1))) in
    subst (λ q. range_room_of c.args.self.now ≤ range_room_of q) (sym c.copy_over.ensures.plan) both.1

pub returns-then-stays-clause-room : goal.returns-then-stays-clause-room
returns-then-stays-clause-room g c =
    let p = c.args.self.now in
    let hs = c.args.owner.now.holds in
    let buf = c.in-Some.frag.hold.buffer in
    let n = c.in-Some.frag.len in
    let first = c.in-Some.ensures.some.0 in
    let filled = subst (λ v. IfFirst (λ q. (0 < q.1) × (q.1 ≤ 8 * length (front_of q.0 hs))) v) first c.requires.filled
    in
    let next = subst (λ v. MatchOption p.begun ⊥ (λ b. IfFirst (λ q. MayComeNext 0 q.1 b) v)) first c.requires.next in
    let threshold = subst (λ (q : Planned). (0 < q.base.threshold) × (q.base.threshold ≤ 512)) c.self.view_is
    c.self.invariant.0.threshold in
    let small = subst (λ (q : Planned). IsSmall q.base.threshold q.begun) c.self.view_is c.self.invariant.0.fits.small
    in
    let both = run_rooms p.base p.taken p.begun (placed_over g.N.PoolName.sizes hs (buf, n)) 0 n threshold next filled.0
    small (length-run 0 n (front_of buf hs) (omega (arith, filled.1))) in
    subst (λ q. room_of c.args.self.now ≤ room_of q) (sym c.move_over.ensures.plan) both.0

pub returns-then-stays-clause-range_room : goal.returns-then-stays-clause-range_room
returns-then-stays-clause-range_room g c =
    let p = c.args.self.now in
    let hs = c.args.owner.now.holds in
    let buf = c.in-Some.frag.hold.buffer in
    let n = c.in-Some.frag.len in
    let first = c.in-Some.ensures.some.0 in
    let filled = subst (λ v. IfFirst (λ q. (0 < q.1) × (q.1 ≤ 8 * length (front_of q.0 hs))) v) first c.requires.filled
    in
    let next = subst (λ v. MatchOption p.begun ⊥ (λ b. IfFirst (λ q. MayComeNext 0 q.1 b) v)) first c.requires.next in
    let threshold = subst (λ (q : Planned). (0 < q.base.threshold) × (q.base.threshold ≤ 512)) c.self.view_is
    c.self.invariant.0.threshold in
    let small = subst (λ (q : Planned). IsSmall q.base.threshold q.begun) c.self.view_is c.self.invariant.0.fits.small
    in
    let both = run_rooms p.base p.taken p.begun (placed_over g.N.PoolName.sizes hs (buf, n)) 0 n threshold next filled.0
    small (length-run 0 n (front_of buf hs) (omega (arith, filled.1))) in
    subst (λ q. range_room_of c.args.self.now ≤ range_room_of q) (sym c.move_over.ensures.plan) both.1
