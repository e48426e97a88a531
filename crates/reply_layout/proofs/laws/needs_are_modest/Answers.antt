use Rattle.reply_layout.proofs.Modest.{need_modest}
use Rattle.reply_layout.proofs.laws.needs_are_modest.Goals as goal

pub returns : goal.returns
returns c = need_modest
