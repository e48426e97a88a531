use Rattle.schedule_text.proofs.Written.{written_lines}
use Rattle.schedule_text.proofs.laws.text_has_lines.Goals as goal

pub returns : goal.returns
returns c = written_lines
