use Rattle.serve_model.proofs.Rows.{rows_are}
use Rattle.serve_model.proofs.laws.worked_rows.Goals as goal

pub returns : goal.returns
returns c = rows_are
