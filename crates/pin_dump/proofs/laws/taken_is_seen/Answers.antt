use Rattle.pin_dump.proofs.SeenTaken.{is_seen}
use Rattle.pin_dump.proofs.laws.taken_is_seen.Goals as goal

pub returns : goal.returns
returns c = is_seen
