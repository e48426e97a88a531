use Rattle.pin_core.specs.declared.event.PinEvent.TheVariants.{Put, Load, Pin, Unpin, Move, Give}
use Rattle.pin_core.proofs.Exact.{only_memory}
use Rattle.pin_core.proofs.state.PinState.step.Goals as goal

pub returns-in-Put-clause-only : goal.returns-in-Put-clause-only
returns-in-Put-clause-only c = only_memory c.args.self.now c.put.new.self c.args.event
    (Put c.in-Put.buffer c.in-Put.holder c.in-Put.index c.in-Put.word) c.put.result c.in-Put.is c.put.ensures

pub returns-in-Load-clause-only : goal.returns-in-Load-clause-only
returns-in-Load-clause-only c = only_memory c.args.self.now c.args.self.now c.args.event
    (Load c.in-Load.buffer c.in-Load.holder c.in-Load.index) c.load.result c.in-Load.is c.load.ensures

pub returns-in-Pin-clause-only : goal.returns-in-Pin-clause-only
returns-in-Pin-clause-only c = only_memory c.args.self.now c.pin.new.self c.args.event
    (Pin c.in-Pin.buffer c.in-Pin.from c.in-Pin.to) c.pin.result c.in-Pin.is c.pin.ensures

pub returns-in-Unpin-clause-only : goal.returns-in-Unpin-clause-only
returns-in-Unpin-clause-only c = only_memory c.args.self.now c.unpin.new.self c.args.event
    (Unpin c.in-Unpin.buffer c.in-Unpin.holder c.in-Unpin.pinned) c.unpin.result c.in-Unpin.is c.unpin.ensures

pub returns-in-Move-clause-only : goal.returns-in-Move-clause-only
returns-in-Move-clause-only c = only_memory c.args.self.now c.rename.new.self c.args.event
    (Move c.in-Move.buffer c.in-Move.pinned c.in-Move.from c.in-Move.to) c.rename.result c.in-Move.is c.rename.ensures

pub returns-in-Give-clause-only : goal.returns-in-Give-clause-only
returns-in-Give-clause-only c = only_memory c.args.self.now c.give.new.self c.args.event
    (Give c.in-Give.from c.in-Give.to c.in-Give.credits) c.give.result c.in-Give.is c.give.ensures
