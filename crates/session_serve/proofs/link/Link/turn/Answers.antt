use Rattle.std.proofs.Common.{length, refl, ap, sym, ◌∙◌, subst, arith}
use Rattle.session_serve.specs.Dumps.{CanTake, IsInTime, Stands}
use Rattle.session_serve.proofs.Calling.{more-told}
use Rattle.session_serve.proofs.Dumping.{stands-posted, stands-refused, in_time-posted}
use Rattle.session_serve.proofs.Seeing.{ends-seen, breaks-seen, goes-on-seen, more-as_seen}
use Rattle.session_serve.proofs.Seeing.{none-more-seen, one-more-seen}
use Rattle.session_serve.proofs.Serving.{forwards-nothing}
use Rattle.session_serve.proofs.Whole.{none-more, more-as}
use Rattle.session_serve.proofs.link.Link.turn.Goals as goal

pub call_untold-requires-clause-few : goal.call_untold-requires-clause-few
call_untold-requires-clause-few g c κs within =
    omega (arith, c.requires.ready.few, ap (λ s. length s.posted) c.take_before_call.ensures.session.rest)

pub forward-wire-requires-clause-one : goal.forward-wire-requires-clause-one
forward-wire-requires-clause-one g c κs within =
    one-more-seen _ _ _ _ _ _ _ _ _ _ _ c.take_before_call.ensures.session c.requires.gathered
    c.in-Ok-call_untold.ensures.posted.2

pub returns-in-Err-clause-forwards : goal.returns-in-Err-clause-forwards
returns-in-Err-clause-forwards g c = forwards-nothing _ _ _ _ _ _ _ refl

pub returns-in-Err-clause-none_sent : goal.returns-in-Err-clause-none_sent
returns-in-Err-clause-none_sent g c = none-more c.args.self.now.mtu _ _ _ _ _ _ _ _ refl refl refl

pub returns-in-Err-clause-end : goal.returns-in-Err-clause-end
returns-in-Err-clause-end g c first origin before given calls w =
    ends-seen _ _ first origin before given calls c.in-Err.end c.args.self.now.session c.args.self.now.pump
    c.next.new.self w
    (c.in-Err.ensures.end origin before given w.pump_is)

pub returns-in-Err-Memory-clause-forwards : goal.returns-in-Err-Memory-clause-forwards
returns-in-Err-Memory-clause-forwards g c =
    let r = rw c.in-Err-Memory.field-0-is at c.in-Err-Memory.ensures.refused in
    forwards-nothing _ _ _ _ _ _ _ (r.posted ∙ ap (λ s. s.posted) c.take_before_call.ensures.session.rest)

pub returns-in-Err-Memory-clause-none_sent : goal.returns-in-Err-Memory-clause-none_sent
returns-in-Err-Memory-clause-none_sent g c =
    let r = rw c.in-Err-Memory.field-0-is at c.in-Err-Memory.ensures.refused in
    none-more c.args.self.now.mtu _ _ _ _ _ _ _ _
    (r.posted ∙ ap (λ s. s.posted) c.take_before_call.ensures.session.rest) refl refl

pub returns-in-Err-Memory-clause-end : goal.returns-in-Err-Memory-clause-end
returns-in-Err-Memory-clause-end g c first origin before given calls w =
    let r = rw c.in-Err-Memory.field-0-is at c.in-Err-Memory.ensures.refused in
    breaks-seen _ _ first origin before given calls c.in-Ok.command c.args.self.now.session
    c.take_before_call.new.session c.call_untold.new.self c.args.self.now.pump c.next.new.self
    c.take_before_call.ensures.session w (c.in-Ok.ensures.command origin before given w.pump_is) r

pub returns-clause-sent : goal.returns-clause-sent
returns-clause-sent g c =
    more-as c.args.self.now.mtu _ _ _ _ _ _ _ _ _ _ _ _ _ _ refl refl c.requires.gathered.all
    (ap (λ s. s.posted) (sym c.forward-wire.ensures.session)) refl c.forward-wire.ensures.sent

pub returns-clause-call : goal.returns-clause-call
returns-clause-call g c first origin before given calls w =
    more-as_seen _ _ first origin before given calls c.call_untold.new.self.pass.list c.forward-wire.new.self.session _
    (ap (λ s. s.pass.list.looks) (sym c.forward-wire.ensures.session))
    (more-told _ _ _ origin before given calls c.call_untold.new.self _ _ c.next.new.self _
    c.forward-wire.ensures.session
    (c.forward-wire.ensures.pump ∙ c.give_back.ensures)
    (goes-on-seen _ _ first origin before given calls c.in-Ok.command c.args.self.now.session
    c.take_before_call.new.session c.call_untold.new.self c.args.self.now.pump c.next.new.self _ _ _ _
    c.take_before_call.ensures.session w
    (c.in-Ok.ensures.command origin before given w.pump_is).0 c.in-Ok-call_untold.ensures.posted.2))

pub returns-in-Err-Memory-clause-stands : goal.returns-in-Err-Memory-clause-stands
returns-in-Err-Memory-clause-stands g c asked first stands in_time =
    let r = rw c.in-Err-Memory.field-0-is at c.in-Err-Memory.ensures.refused in
    stands-refused _ _ asked c.take_before_call.new.self.plan c.take_before_call.new.self.taken first c.in-Ok.command
    c.take_before_call.new.session c.call_untold.new.self
    (c.take_before_call.ensures.in_time asked first stands in_time) r
    (c.take_before_call.ensures.stands asked first stands)

pub returns-clause-stands : goal.returns-clause-stands
returns-clause-stands g c asked first stands in_time =
    let dump = c.take_before_call.new.self in
    let shards = g.N.BookName.sizes.shards in
    subst (λ d. Stands shards asked d.plan d.taken first c.forward-wire.new.self.session.pass.list)
    (sym c.forward-wire.ensures.dump)
    (subst (λ s. Stands shards asked dump.plan dump.taken first s.pass.list) (sym c.forward-wire.ensures.session)
    (stands-posted _ _ asked dump.plan dump.taken first c.in-Ok.command c.take_before_call.new.session
    c.call_untold.new.self
    _ _ _ _ (c.take_before_call.ensures.in_time asked first stands in_time) c.in-Ok-call_untold.ensures.posted.2
    (c.take_before_call.ensures.stands asked first stands)))

pub returns-clause-in_time : goal.returns-clause-in_time
returns-clause-in_time g c asked first stands in_time =
    let dump = c.take_before_call.new.self in
    subst (λ d. IsInTime asked d.plan (length c.forward-wire.new.self.session.posted)) (sym c.forward-wire.ensures.dump)
    (subst (λ s. IsInTime asked dump.plan (length s.posted)) (sym c.forward-wire.ensures.session)
    (in_time-posted _ _ asked dump.plan c.in-Ok.command c.take_before_call.new.session c.call_untold.new.self _ _
    _ _ (c.take_before_call.ensures.in_time asked first stands in_time) c.in-Ok-call_untold.ensures.posted.2))

pub returns-clause-plan : goal.returns-clause-plan
returns-clause-plan g c =
    subst (λ d. CanTake g.P.PoolName.sizes g.N.BookName.sizes.shards d.plan) (sym c.forward-wire.ensures.dump)
    c.take_before_call.ensures.plan

pub returns-in-Err-Memory-clause-gathered : goal.returns-in-Err-Memory-clause-gathered
returns-in-Err-Memory-clause-gathered g c =
    let r = rw c.in-Err-Memory.field-0-is at c.in-Err-Memory.ensures.refused in
    none-more-seen _ _ _ _ _ _ _ c.take_before_call.ensures.session c.requires.gathered r

pub returns-clause-unstopped : goal.returns-clause-unstopped
returns-clause-unstopped g c =
    ap (λ s. s.stopped) c.forward-wire.ensures.session ∙ c.in-Ok-call_untold.ensures.posted.2.stopped
    ∙ ap (λ s. s.stopped) c.take_before_call.ensures.session.rest
