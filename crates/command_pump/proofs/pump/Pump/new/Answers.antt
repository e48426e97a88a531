use Rattle.command_pump.proofs.Pumped.{at_start}
use Rattle.command_pump.proofs.pump.Pump.new.Goals as goal

pub returns-clause-pump : goal.returns-clause-pump
returns-clause-pump g c = at_start _ _ _ _ _ c.requires c.new.ensures.fed c.new.ensures.open
