use Rattle.std.proofs.Common.{◌≡◌, ap, sym, subst}
use Rattle.tx_ring.specs.Changes.{IsPrefix}
use Rattle.tx_ring.specs.Shown.{completed}
use Rattle.session_serve.proofs.Gathering.{found-all}
use Rattle.session_serve.proofs.Serving.{forwards-as}
use Rattle.session_serve.proofs.Whole.{gathered-more, more-as}
use Rattle.session_serve.proofs.link.Link.forward.Goals as goal

pub returns-clause-sent : goal.returns-clause-sent
returns-clause-sent g c =
    let posted = c.args.self.now.session.posted in
    let then = c.gather_next-wire.new.device.end in
    let same : completed c.both_ends.new.device.end ≡ completed c.args.self.now.device.end =
    ap (λ v. v.completed) c.both_ends.ensures.device in
    let prefix : IsPrefix (completed then) posted = subst (λ s. IsPrefix (completed then) s.posted)
    c.both_ends.ensures.session c.both_ends-2.ensures.order.1 in
    let e = c.gather_next-wire.ensures in
    more-as c.args.self.now.mtu _ _ _ _ _ _ _ _ _ _ _ _ _ _ c.both_ends.ensures.failed
    (sym c.both_ends-2.ensures.failed) same
    (found-all _ _ posted _ c.requires.one.reply _ then e.found c.requires.one.posted same
    (ap (λ v. v.told) c.both_ends.ensures.device) prefix)
    (sym c.whole_bytes.ensures) (gathered-more _ _ _ _ _ _ _ _ _ _ e.found e.put e.flushed)

pub returns-clause-forwards : goal.returns-clause-forwards
returns-clause-forwards g c =
    let posted = c.args.self.now.session.posted in
    let then = c.gather_next-wire.new.device.end in
    let same : completed c.both_ends.new.device.end ≡ completed c.args.self.now.device.end =
    ap (λ v. v.completed) c.both_ends.ensures.device in
    let prefix : IsPrefix (completed then) posted = subst (λ s. IsPrefix (completed then) s.posted)
    c.both_ends.ensures.session c.both_ends-2.ensures.order.1 in
    forwards-as _ _ _ _ _ _ _ _ _ _ _ _ _ c.both_ends.ensures.failed (sym c.both_ends-2.ensures.failed) same
    (found-all _ _ posted _ c.requires.one.reply _ then c.gather_next-wire.ensures.found c.requires.one.posted same
    (ap (λ v. v.told) c.both_ends.ensures.device) prefix)
    c.gather_next-wire.ensures.forwards
