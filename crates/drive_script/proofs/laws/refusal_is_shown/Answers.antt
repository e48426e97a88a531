use Rattle.drive_script.proofs.Showing.{refusal_shown}
use Rattle.drive_script.proofs.laws.refusal_is_shown.Goals as goal

pub returns : goal.returns
returns c = λ z shards command old new refused. refusal_shown z old new shards command refused
