use Rattle.std.proofs.Common.{◌≡◌, ◌≤◌, ◌<◌, length}
use Rattle.view_sums.specs.Total.{total}
use Rattle.pin_core.specs.Holding.{sole_at}
use Rattle.pinned_pool.specs.Moves.{meant_count, front_of}
use Rattle.test_pool.proofs.pool.fill.Given as goal

abbrev pub invariant-loop-k : goal.invariant-loop-k
invariant-loop-k g l = record {
  sole : 0 < total (sole_at l.hold.buffer) l.seat.holds;
  front : l.k ≤ length (front_of l.hold.buffer l.seat.holds);
  held : 0 < meant_count l.hold l.initial.seat.holds → 0 < meant_count l.hold l.seat.holds;
  credits : l.seat.credits ≡ l.initial.seat.credits;
}
