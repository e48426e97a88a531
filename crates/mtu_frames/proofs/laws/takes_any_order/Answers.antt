use Rattle.mtu_frames.proofs.Runs.{takes_each}
use Rattle.mtu_frames.proofs.laws.takes_any_order.Goals as goal

pub returns : goal.returns
returns c = takes_each
