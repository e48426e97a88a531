use Rattle.reply_layout.proofs.Fits.{layout_fits}
use Rattle.reply_layout.proofs.laws.layouts_are_short.Goals as goal

pub returns : goal.returns
returns c = layout_fits
