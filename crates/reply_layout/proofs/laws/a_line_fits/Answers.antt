use Rattle.reply_layout.proofs.Lines.{line_fits}
use Rattle.reply_layout.proofs.laws.a_line_fits.Goals as goal

pub returns : goal.returns
returns c = line_fits
