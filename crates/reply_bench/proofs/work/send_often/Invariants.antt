use Rattle.std.proofs.Common.{◌≡◌}
use Rattle.frag_value.specs.Values.{HasValue}
use Rattle.tx_ring.specs.Shown.{posted, reaped}
use Rattle.reply_bench.specs.Desks.{IsDesk}
use Rattle.reply_bench.proofs.work.send_often.Given as goal

abbrev pub invariant-loop : goal.invariant-loop
invariant-loop g l = record {
  desk : IsDesk l.stage l.seat;
  value : HasValue l.owner.holds l.value;
  none : posted l.driver ≡ reaped l.driver;
}
