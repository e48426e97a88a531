use Rattle.flake_model.proofs.Sessions.{sessions_are}
use Rattle.flake_model.proofs.laws.worked_sessions.Goals as goal

pub returns : goal.returns
returns c = sessions_are
