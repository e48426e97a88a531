use Rattle.std.proofs.Common.{arith}
use Rattle.pinned_pool.proofs.Looks.{passed_none, passed_then}
use Rattle.pinned_pool.proofs.pool.Pool.pass_held.Goals as goal

pub loop-passed-init : goal.loop-passed-init
loop-passed-init g c = record { passed = passed_none _ _; few = omega arith }

pub overflow_sub-count : goal.overflow_sub-count
overflow_sub-count g c = c.loop-passed.invariant.few

pub returns-then-more-lt16-clause-passed : goal.returns-then-more-lt16-clause-passed
returns-then-more-lt16-clause-passed g c = passed_then _ _ _ _ _ _ c.loop-passed.invariant.passed
    c.pass_stretch-more.ensures.passed

pub loop-passed-smaller : goal.loop-passed-smaller
loop-passed-smaller g c = omega (arith, c.loop-passed-test.true, c.if-more-lt16.false, c.pass_stretch-more.ensures.few)

pub loop-passed-preserved : goal.loop-passed-preserved
loop-passed-preserved g c = record {
  passed = passed_then _ _ _ _ _ _ c.loop-passed.invariant.passed c.pass_stretch-more.ensures.passed;
  few = omega (arith, c.loop-passed-test.true, c.pass_stretch-more.ensures.few);
}

pub returns-clause-passed : goal.returns-clause-passed
returns-clause-passed g c = c.loop-passed.invariant.passed

pub returns-clause-few : goal.returns-clause-few
returns-clause-few g c = c.loop-passed.invariant.few
