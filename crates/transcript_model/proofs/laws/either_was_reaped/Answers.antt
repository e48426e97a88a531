use Rattle.transcript_model.proofs.Wants.{none_gone, one_gone}
use Rattle.transcript_model.proofs.laws.either_was_reaped.Goals as goal

pub returns : goal.returns
returns c = record { none = none_gone; one = one_gone }
