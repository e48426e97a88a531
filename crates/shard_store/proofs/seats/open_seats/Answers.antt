use Rattle.std.proofs.Common.{arith}
use Rattle.shard_store.proofs.Seating.{seating_starts, seating_on}
use Rattle.shard_store.proofs.seats.open_seats.Goals as goal

pub loop-init : goal.loop-init
loop-init g c = seating_starts _ _ _ c.in-Ok.ensures.empty c.in-Ok.ensures.room

pub split-seat-requires-clause-credits : goal.split-seat-requires-clause-credits
split-seat-requires-clause-credits g c =
    (omega arith, omega (arith, c.loop.invariant.credits, c.requires, c.loop-test.true))

pub unreachable-requires : goal.unreachable-requires
unreachable-requires g c =
    omega (arith, c.in_default-push.ensures.full, c.loop.invariant.room, c.loop-test.true)

pub loop-preserved : goal.loop-preserved
loop-preserved g c =
    seating_on _ _ _ _ _ _ _ _ c.loop.invariant c.loop-test.true c.requires c.split-seat.ensures.old
    c.split-seat.ensures.new c.in-Ok-push.ensures.ok c.push.ensures.spare
