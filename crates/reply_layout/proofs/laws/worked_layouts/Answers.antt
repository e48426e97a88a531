use Rattle.reply_layout.proofs.Worked.{rows_are_laid_out}
use Rattle.reply_layout.proofs.laws.worked_layouts.Goals as goal

pub returns : goal.returns
returns c = rows_are_laid_out
