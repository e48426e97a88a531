use Rattle.drive_script.proofs.Finals.{all_texts}
use Rattle.drive_script.proofs.line_laws.all_texts.Goals as goal

pub returns : goal.returns
returns c = all_texts
