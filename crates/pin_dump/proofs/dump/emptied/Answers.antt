use Rattle.frag_value.specs.Pins.{all_frags}
use Rattle.pin_dump.proofs.Emptied.{is_emptied}
use Rattle.pin_dump.proofs.dump.emptied.Goals as goal

pub returns : goal.returns
returns g c = is_emptied (all_frags c.args.pairs.items) c.args.seat c.give_back.new.seat c.requires c.give_back.ensures
