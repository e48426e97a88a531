use Rattle.std.proofs.Common.{refl, arith}
use Rattle.pinned_pool.proofs.Looks.{passed_none, passed_more, passed_so}
use Rattle.pinned_pool.proofs.pool.Pool.pass_stretch.Goals as goal

pub loop-k-init : goal.loop-k-init
loop-k-init g c = passed_none _ _

pub returns-then-seems_free-clause-passed : goal.returns-then-seems_free-clause-passed
returns-then-seems_free-clause-passed g c = passed_so _ _ _ _ _ _ c.loop-k.invariant refl c.if-seems_free.ensures

pub loop-k-preserved : goal.loop-k-preserved
loop-k-preserved g c = let t = c.if-seems_free.ensures in passed_more _ _ t.0 _ _ _ c.loop-k.invariant t.1 t.2

pub returns-clause-passed : goal.returns-clause-passed
returns-clause-passed g c = passed_so _ _ _ _ _ _ c.loop-k.invariant
    (omega (arith, c.loop-k-test.false, c.loop-k.auto.k-end)) refl
