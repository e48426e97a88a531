use Rattle.pinned_pool.specs.Claims.{Passed}
use Rattle.pinned_pool.proofs.pool.Pool.pass_stretch.Given as goal

abbrev pub invariant-loop-k : goal.invariant-loop-k
invariant-loop-k g l = Passed l.first l.k l.initial.seat l.seat
