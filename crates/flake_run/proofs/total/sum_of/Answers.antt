use Rattle.flake_run.proofs.Sums.{sum_step}
use Rattle.flake_run.proofs.total.sum_of.Goals as goal

pub loop-count-preserved : goal.loop-count-preserved
loop-count-preserved c = sum_step c.args.counts.now c.loop-count.count-index _ _ _ c.loop-count.invariant
    c.saturating_add-bytes.ensures c.loop-count-test.true
