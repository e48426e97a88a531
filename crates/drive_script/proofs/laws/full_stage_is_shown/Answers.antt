use Rattle.drive_script.proofs.Showing.{stage_shown}
use Rattle.drive_script.proofs.laws.full_stage_is_shown.Goals as goal

pub returns : goal.returns
returns c = λ z command old new need free before over finds. stage_shown z old new command need free over finds
