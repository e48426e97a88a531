use Rattle.serve_model.proofs.Cuts.{cuts_agree}
use Rattle.serve_model.proofs.laws.cuts_agree.Goals as goal

pub returns : goal.returns
returns c = cuts_agree
