use Rattle.reply_layout.proofs.Fits.{range_fits}
use Rattle.reply_layout.proofs.laws.a_range_fits.Goals as goal

pub returns : goal.returns
returns c = range_fits
