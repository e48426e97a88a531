use Rattle.transcript_model.proofs.Cut.{cut_dropped, cut_is_dropped}
use Rattle.transcript_model.proofs.laws.cut_reply_is_dropped.Goals as goal

pub returns-clause-law : goal.returns-clause-law
returns-clause-law c = cut_dropped

pub returns-clause-worked : goal.returns-clause-worked
returns-clause-worked c = cut_is_dropped
