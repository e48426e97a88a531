use Rattle.reply_layout.proofs.Fits.{values_fit}
use Rattle.reply_layout.proofs.laws.all_values_fit.Goals as goal

pub returns : goal.returns
returns c = values_fit
