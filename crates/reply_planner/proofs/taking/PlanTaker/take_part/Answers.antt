use Rattle.std.proofs.Common.{◌<◌, ◌≤◌, sym, subst, arith}
use Rattle.pinned_pool.specs.Moves.{front_of}
use Rattle.frag_value.specs.Taken.{placed_part}
use Rattle.reply_planner.specs.Planned.{Planned, room_of, range_room_of}
use Rattle.reply_planner.specs.Plans.{IsSmall}
use Rattle.reply_planner.proofs.KeptAt.{length-run}
use Rattle.reply_planner.proofs.Runs.{run_rooms}
use Rattle.reply_planner.proofs.taking.PlanTaker.take_part.Goals as goal

pub returns-else-stays-clause-room : goal.returns-else-stays-clause-room
returns-else-stays-clause-room g c =
    let p = c.args.self.now in
    let f = placed_part g.N.PoolName.sizes c.args.owner.now.holds c.args.frag.now.hold.buffer c.args.from c.args.len in
    let threshold = subst (λ (q : Planned). (0 < q.base.threshold) × (q.base.threshold ≤ 512)) c.self.view_is
    c.self.invariant.0.threshold in
    let small = subst (λ (q : Planned). IsSmall q.base.threshold q.begun) c.self.view_is c.self.invariant.0.fits.small
    in
    let both = run_rooms p.base p.taken p.begun f c.args.from c.args.len threshold c.requires.next c.requires.filled.0
    small (length-run c.args.from c.args.len (front_of c.args.frag.now.hold.buffer c.args.owner.now.holds)
    (omega (arith, c.requires.filled))) in
    subst (λ q. room_of c.args.self.now ≤ room_of q) (sym c.copy_part.ensures.plan) both.0

pub returns-else-stays-clause-range_room : goal.returns-else-stays-clause-range_room
returns-else-stays-clause-range_room g c =
    let p = c.args.self.now in
    let f = placed_part g.N.PoolName.sizes c.args.owner.now.holds c.args.frag.now.hold.buffer c.args.from c.args.len in
    let threshold = subst (λ (q : Planned). (0 < q.base.threshold) × (q.base.threshold ≤ 512)) c.self.view_is
    c.self.invariant.0.threshold in
    let small = subst (λ (q : Planned). IsSmall q.base.threshold q.begun) c.self.view_is c.self.invariant.0.fits.small
    in
    let both = run_rooms p.base p.taken p.begun f c.args.from c.args.len threshold c.requires.next c.requires.filled.0
    small (length-run c.args.from c.args.len (front_of c.args.frag.now.hold.buffer c.args.owner.now.holds)
    (omega (arith, c.requires.filled))) in
    subst (λ q. range_room_of c.args.self.now ≤ range_room_of q) (sym c.copy_part.ensures.plan) both.1

pub returns-then-stays-clause-room : goal.returns-then-stays-clause-room
returns-then-stays-clause-room g c =
    let p = c.args.self.now in
    let f = placed_part g.N.PoolName.sizes c.args.owner.now.holds c.args.frag.now.hold.buffer c.args.from c.args.len in
    let threshold = subst (λ (q : Planned). (0 < q.base.threshold) × (q.base.threshold ≤ 512)) c.self.view_is
    c.self.invariant.0.threshold in
    let small = subst (λ (q : Planned). IsSmall q.base.threshold q.begun) c.self.view_is c.self.invariant.0.fits.small
    in
    let both = run_rooms p.base p.taken p.begun f c.args.from c.args.len threshold c.requires.next c.requires.filled.0
    small (length-run c.args.from c.args.len (front_of c.args.frag.now.hold.buffer c.args.owner.now.holds)
    (omega (arith, c.requires.filled))) in
    subst (λ q. room_of c.args.self.now ≤ room_of q) (sym c.pin_part.ensures.plan) both.0

pub returns-then-stays-clause-range_room : goal.returns-then-stays-clause-range_room
returns-then-stays-clause-range_room g c =
    let p = c.args.self.now in
    let f = placed_part g.N.PoolName.sizes c.args.owner.now.holds c.args.frag.now.hold.buffer c.args.from c.args.len in
    let threshold = subst (λ (q : Planned). (0 < q.base.threshold) × (q.base.threshold ≤ 512)) c.self.view_is
    c.self.invariant.0.threshold in
    let small = subst (λ (q : Planned). IsSmall q.base.threshold q.begun) c.self.view_is c.self.invariant.0.fits.small
    in
    let both = run_rooms p.base p.taken p.begun f c.args.from c.args.len threshold c.requires.next c.requires.filled.0
    small (length-run c.args.from c.args.len (front_of c.args.frag.now.hold.buffer c.args.owner.now.holds)
    (omega (arith, c.requires.filled))) in
    subst (λ q. range_room_of c.args.self.now ≤ range_room_of q) (sym c.pin_part.ensures.plan) both.1
