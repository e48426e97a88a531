use Rattle.std.proofs.Common.{◌≡◌}
use Rattle.tx_ring.specs.Shown.{posted, reaped, IsResting}
use Rattle.card_cases.specs.Desks.{IsDesk}
use Rattle.card_cases.proofs.work.work_named.Given as goal

abbrev pub invariant-loop-case : goal.invariant-loop-case
invariant-loop-case g l = record {
  desk : IsDesk l.stage l.seat;
  none : posted l.driver ≡ reaped l.driver;
  rest : IsResting l.end;
}
