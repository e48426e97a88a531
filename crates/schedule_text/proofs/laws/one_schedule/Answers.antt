use Rattle.schedule_text.proofs.OneLine.{one_schedule_lem}
use Rattle.schedule_text.proofs.laws.one_schedule.Goals as goal

pub returns : goal.returns
returns c = one_schedule_lem
