use Rattle.reply_layout.proofs.Texts.{pieces_text}
use Rattle.reply_layout.proofs.laws.pieces_are_the_text.Goals as goal

pub returns : goal.returns
returns c = pieces_text
