use Rattle.drive_script.proofs.Finals.{kept_news}
use Rattle.drive_script.proofs.line_laws.nothing_said.Goals as goal

pub returns : goal.returns
returns c = kept_news
