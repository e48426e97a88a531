-- What the end of a session gives.
use Rattle.session_pass.specs.Views.{SessionView}
use Rattle.session_pass.specs.Calls.{CallReaps}
use Rattle.session_pass.specs.Finished.{IsSessionDone}
use Rattle.session_pass.specs.declared.finish.Finish.{Finish}
use Rattle.session_pass.specs.declared.finish.Finish.TheVariants.{Done, NotYet}

abbrev pub Finishes : {N P : Type 0} → SessionView → Finish N P → Type 0
Finishes s (Done seat mine closed) = IsSessionDone s seat mine closed
Finishes s (NotYet session) = CallReaps s session
