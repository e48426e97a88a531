use Rattle.mtu_frames.proofs.Sending.{takes}
use Rattle.mtu_frames.proofs.laws.takes_frames.Goals as goal

pub returns : goal.returns
returns c = takes
