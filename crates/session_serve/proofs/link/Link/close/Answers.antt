use Rattle.std.proofs.Common.{◌≡◌, sym, ◌∙◌}
use Rattle.tx_ring.specs.Shown.{completed}
use Rattle.session_serve.proofs.Gathering.{found-none}
use Rattle.session_serve.proofs.link.Link.close.Goals as goal

pub returns-clause-flushed : goal.returns-clause-flushed
returns-clause-flushed g c =
    let same : completed c.gather-wire.new.self.end ≡ completed c.args.self.device.end = c.settle.ensures.all.0
    ∙ c.in-Done.ensures.posted ∙ sym c.requires.gathered.all in
    rw (c.failed.ensures ∙ c.settle.ensures.failed)
    (found-none _ _ _ _ _ c.gather-wire.ensures.found same c.gather-wire.ensures.flushed)
