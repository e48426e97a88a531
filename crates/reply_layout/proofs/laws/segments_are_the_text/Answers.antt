use Rattle.reply_layout.proofs.Texts.{segments_text}
use Rattle.reply_layout.proofs.laws.segments_are_the_text.Goals as goal

pub returns : goal.returns
returns c = segments_text
