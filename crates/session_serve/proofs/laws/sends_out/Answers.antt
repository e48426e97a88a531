use Rattle.session_serve.proofs.Serving.{sends-out, flushed-last}
use Rattle.session_serve.proofs.laws.sends_out.Goals as goal

pub returns-clause-sends : goal.returns-clause-sends
returns-clause-sends g c = sends-out _ _

pub returns-clause-flushed : goal.returns-clause-flushed
returns-clause-flushed g c = flushed-last _ _
