use Rattle.reply_layout.proofs.Copies.{copies_bytes_of}
use Rattle.reply_layout.proofs.laws.copied_bytes_lie_in_order.Goals as goal

pub returns : goal.returns
returns c = copies_bytes_of
