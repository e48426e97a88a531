use Rattle.reply_layout.proofs.Fits.{value_fits}
use Rattle.reply_layout.proofs.laws.one_value_fits.Goals as goal

pub returns : goal.returns
returns c = value_fits
