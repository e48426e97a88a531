use Rattle.std.proofs.Common.{rules, ◌≡◌, ◌+◌, [], true, false, cond, subst, arith}
use Rattle.reply_planner.proofs.Unpinned.{UnpinnedSoFar, unpinned_none, last_held, more_unpinned, all_unpinned}
use Rattle.reply_planner.proofs.returning.unpin_all.Goals as goal

pub loop-hold-init : goal.loop-hold-init
loop-hold-init g c = unpinned_none c.args.holds.now.items c.args.seat.now c.requires

pub unpin-requires : goal.unpin-requires
unpin-requires g c =
    last_held c.args.holds.now.items c.loop-hold.holds.items c.pop.new.self.items c.in-Some.hold c.loop-hold.lasts
    c.args.seat.now c.loop-hold.seat c.loop-hold.invariant c.in-Some.ensures.items

pub loop-hold-preserved : goal.loop-hold-preserved
loop-hold-preserved g c =
    let n = c.loop-hold.lasts in
    let same : n + cond false 1 0 ≡ n = omega arith in
    subst (λ m. UnpinnedSoFar c.args.holds.now.items c.pop.new.self.items m c.args.seat.now c.unpin.new.seat) same
    (more_unpinned c.args.holds.now.items c.loop-hold.holds.items c.pop.new.self.items c.in-Some.hold n c.args.seat.now
    c.loop-hold.seat c.unpin.new.seat false c.loop-hold.invariant c.in-Some.ensures.items c.in-NotLast.ensures.seat)

pub loop-hold-preserved-in-Last : goal.loop-hold-preserved-in-Last
loop-hold-preserved-in-Last g c =
    more_unpinned c.args.holds.now.items c.loop-hold.holds.items c.pop.new.self.items c.in-Some.hold c.loop-hold.lasts
    c.args.seat.now c.loop-hold.seat c.unpin.new.seat true c.loop-hold.invariant c.in-Some.ensures.items
    c.in-Last.ensures.seat

pub returns-clause-seat : goal.returns-clause-seat
returns-clause-seat g c =
    let none : c.loop-hold.holds.items ≡ [] = search rules in
    all_unpinned c.args.holds.now.items c.loop-hold.holds.items c.loop-hold.lasts c.args.seat.now c.loop-hold.seat none
    c.loop-hold.invariant
