use Rattle.drive_script.proofs.Showing.{reap_shown}
use Rattle.drive_script.proofs.laws.reap_is_shown.Goals as goal

pub returns : goal.returns
returns c = λ z old new number recycled reaps. reap_shown z old new number recycled reaps
