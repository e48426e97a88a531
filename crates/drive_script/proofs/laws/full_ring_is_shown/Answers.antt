use Rattle.drive_script.proofs.Showing.{ring_shown}
use Rattle.drive_script.proofs.laws.full_ring_is_shown.Goals as goal

pub returns : goal.returns
returns c = λ z command old new need room over finds. ring_shown z old new command need room finds
