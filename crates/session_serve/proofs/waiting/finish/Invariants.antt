use Rattle.session_serve.specs.Beside.{HasWaited}
use Rattle.session_serve.proofs.waiting.finish.Given as goal

abbrev pub invariant-loop : goal.invariant-loop
invariant-loop g l = HasWaited l.fn.session l.session
