use Rattle.std.proofs.Common.{◌≡◌, ℕ, ◌<◌, slice_get}
use Rattle.replay_check.specs.Inputs.{contents}
use Rattle.replay_check.proofs.verdict.compared.Given as goal

-- the texts so far are the same
abbrev pub invariant-loop-session : goal.invariant-loop-session
invariant-loop-session l = (k : ℕ) → k < l.session → slice_get (contents l.expected.items) k
    ≡ slice_get (contents l.replies.items) k
