use Rattle.join_files.proofs.Texts.{joins_frames}
use Rattle.join_files.proofs.laws.joins_frames.Goals as goal

pub returns : goal.returns
returns c = joins_frames
