use Rattle.drive_script.proofs.Showing.{post_shown}
use Rattle.drive_script.proofs.laws.post_is_shown.Goals as goal

pub returns : goal.returns
returns c = post_shown
