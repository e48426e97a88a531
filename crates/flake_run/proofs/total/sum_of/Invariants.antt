use Rattle.std.proofs.Common.{◌≡◌, take}
use Rattle.serve_inputs.specs.Whole.{raised}
use Rattle.flake_run.specs.Generated.{sum_of}
use Rattle.flake_run.proofs.total.sum_of.Given as goal

abbrev pub invariant-loop-count : goal.invariant-loop-count
invariant-loop-count l = l.bytes ≡ raised 0 (sum_of (take l.count-index l.counts))
