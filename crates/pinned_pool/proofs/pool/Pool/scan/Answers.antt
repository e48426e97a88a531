use Rattle.pinned_pool.proofs.Looks.{passed_more}
use Rattle.pinned_pool.proofs.pool.Pool.scan.Goals as goal

pub loop-k-init : goal.loop-k-init
loop-k-init g c = c.pass_held-passed.ensures.passed

pub loop-k-preserved : goal.loop-k-preserved
loop-k-preserved g c = let t = c.if-win.ensures in passed_more _ _ t.0 _ _ _ c.loop-k.invariant t.1 t.2
