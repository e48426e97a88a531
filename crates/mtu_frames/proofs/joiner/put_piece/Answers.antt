use Rattle.mtu_frames.proofs.Putting.{put_piece, put_front}
use Rattle.mtu_frames.proofs.joiner.put_piece.Goals as goal

pub returns-in-Ok : goal.returns-in-Ok
returns-in-Ok g c = put_piece _ _ _ c.in-Ok.ensures.0 c.in-Ok.ensures.1.1.ok

pub returns-in-Err : goal.returns-in-Err
returns-in-Err g c = put_front _ _ _ c.in-Err.ensures.1.0 c.in-Err.ensures.1.1.failed
