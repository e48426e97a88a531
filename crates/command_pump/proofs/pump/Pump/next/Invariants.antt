use Rattle.std.proofs.Common.{◌≡◌, ℕ, List}
use Rattle.flake_base.specs.declared.session.End.{End}
use Rattle.flake_model.specs.Command.{Command}
use Rattle.command_pump.specs.Pump.{Origin, IsPump, SeeksNext, AnswersEnd}
use Rattle.command_pump.proofs.Pumped.{reads_left}
use Rattle.command_pump.proofs.pump.Pump.next.Given as goal

abbrev pub invariant-loop-request : goal.invariant-loop-request
invariant-loop-request g l = record {
  kept : (input : Origin) (before : ℕ) (given : List Command) → IsPump input before given l.fn.self
      → SeeksNext input before given l.self;
  again : (end : End) → AnswersEnd end l.fn.self → l.self ≡ l.fn.self;
}

abbrev pub decreases-loop-request : goal.decreases-loop-request
decreases-loop-request g l = reads_left l.self
