use Rattle.session_serve.proofs.Sides.{left-then, left-done}
use Rattle.session_serve.proofs.waiting.finish.Goals as goal

pub returns-in-Done-clause-left : goal.returns-in-Done-clause-left
returns-in-Done-clause-left g c = left-then _ _ _ _ c.loop.invariant (left-done _ _ _ _ c.in-Done.ensures)
