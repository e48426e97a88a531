use Rattle.std.proofs.Common.{◌≡◌, ℕ, List, length}
use Rattle.serve_generated.specs.Input.{InputState}
use Rattle.serve_generated.proofs.Inputs.{inputs_below}
use Rattle.serve_generated.proofs.sources.generated_sources.Given as goal

-- the inputs of the sessions so far
pub record AreMade (number count session : ℕ) (sources : List InputState) : Type 0 where
  pub inputs : sources ≡ inputs_below number count session
  pub many : length sources ≡ session

abbrev pub invariant-loop-session : goal.invariant-loop-session
invariant-loop-session l = AreMade l.number l.count l.session l.sources.items
