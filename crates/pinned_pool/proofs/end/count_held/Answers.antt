use Rattle.std.proofs.Common.{ap, ◌∙◌, ◌+◌, ℕ, arith}
use Rattle.pinned_pool.proofs.Closing.{more_zero, more_held}
use Rattle.pinned_pool.proofs.end.count_held.Goals as goal
use Rattle.pinned_pool.proofs.end.count_held.Goals.{then-word-ne0, else-word-ne0}

pub loop-k-preserved : goal.loop-k-preserved
loop-k-preserved c = let i = c.loop-k.invariant in elim c.if-word-ne0.branch [
  | then-word-ne0 w ↦ (
    more_held _ _ _ _ _ c.word.ensures w.if-word-ne0.true (w.held-is ∙ ap (λ (n : ℕ). n + 1) i.0),
    omega (arith, w.held-is, i.1),
  )
  | else-word-ne0 w ↦ (
    more_zero _ _ _ _ _ c.word.ensures w.if-word-ne0.false (w.held-is ∙ i.0),
    omega
        (arith, w.held-is, i.1),
  )
]
