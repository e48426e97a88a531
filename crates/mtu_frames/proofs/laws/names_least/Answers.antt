use Rattle.mtu_frames.proofs.Texts.{least}
use Rattle.mtu_frames.proofs.laws.names_least.Goals as goal

pub returns : goal.returns
returns c = least
