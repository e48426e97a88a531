use Rattle.reply_layout.proofs.Lines.{plain_fits}
use Rattle.reply_layout.proofs.laws.copied_bytes_fit.Goals as goal

pub returns : goal.returns
returns c = plain_fits
