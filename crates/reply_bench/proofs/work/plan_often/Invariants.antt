use Rattle.frag_value.specs.Values.{HasValue}
use Rattle.reply_bench.specs.Desks.{IsDesk}
use Rattle.reply_bench.proofs.work.plan_often.Given as goal

abbrev pub invariant-loop : goal.invariant-loop
invariant-loop g l = record {
  desk : IsDesk l.stage l.seat;
  value : HasValue l.owner.holds l.value;
}
