use Rattle.std.proofs.Common.{◌≡◌, ℕ, ◌<◌, slice_get}
use Rattle.replay_check.proofs.difference.first_difference.Given as goal

-- the texts are the same so far
abbrev pub invariant-loop-place : goal.invariant-loop-place
invariant-loop-place l = (k : ℕ) → k < l.place → slice_get l.expected k ≡ slice_get l.found k
