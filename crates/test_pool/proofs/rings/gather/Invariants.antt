use Rattle.tx_ring.specs.Shown.{IsResting}
use Rattle.test_pool.proofs.rings.gather.Given as goal

abbrev pub invariant-loop : goal.invariant-loop
invariant-loop l = IsResting l.end
