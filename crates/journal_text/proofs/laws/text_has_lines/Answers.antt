use Rattle.journal_text.proofs.LinesOf.{written_lines}
use Rattle.journal_text.proofs.laws.text_has_lines.Goals as goal

pub returns : goal.returns
returns c = written_lines
