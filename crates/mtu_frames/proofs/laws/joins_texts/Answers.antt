use Rattle.mtu_frames.proofs.Texts.{joins}
use Rattle.mtu_frames.proofs.laws.joins_texts.Goals as goal

pub returns : goal.returns
returns c = joins
