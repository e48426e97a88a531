use Rattle.drive_script.proofs.Showing.{none_shown}
use Rattle.drive_script.proofs.laws.no_reap_is_shown.Goals as goal

pub returns : goal.returns
returns c = λ z old new none. none_shown z old new none
