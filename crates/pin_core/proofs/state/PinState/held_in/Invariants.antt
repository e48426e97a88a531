use Rattle.std.proofs.Common.{◌≡◌, ◌≤◌}
use Rattle.pin_core.specs.Pins.{weigh}
use Rattle.pin_core.specs.HeldCount.{held_in}
use Rattle.pin_core.proofs.state.PinState.held_in.Given as goal

abbrev pub invariant-loop-k : goal.invariant-loop-k
invariant-loop-k l = (l.held ≡ held_in (weigh l.self.pins.holds) l.first l.k) × (l.held ≤ l.k)
