use Rattle.mtu_frames.proofs.Texts.{more}
use Rattle.mtu_frames.proofs.laws.goes_on.Goals as goal

pub returns : goal.returns
returns c = more
