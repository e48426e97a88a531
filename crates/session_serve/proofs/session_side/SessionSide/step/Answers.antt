use Rattle.std.proofs.Common.{◌+◌, ◌≤◌, ◌++◌, ◌∷◌, [], length, ap, sym, ◌∙◌, subst}
use Rattle.flake_model.specs.Resp.{judged_bytes}
use Rattle.command_pump.specs.Pump.{IsPump}
use Rattle.session_serve.proofs.Dumping.{stands-at_last, stands-broken, in_time-at_last}
use Rattle.session_serve.proofs.Seeing.{ends-seen}
use Rattle.session_serve.proofs.Sides.{calls-on, breaks-off}
use Rattle.session_serve.proofs.session_side.SessionSide.step.Goals as goal

pub call-called-requires-clause-few : goal.call-called-requires-clause-few
call-called-requires-clause-few g c κs within =
    subst (λ s. length s.posted ≤ judged_bytes + 1) (sym c.take_before_call.ensures.session.rest) c.requires.few

pub returns-in-Err-clause-end : goal.returns-in-Err-clause-end
returns-in-Err-clause-end g c first origin before given calls w =
    ends-seen _ _ first origin before given calls c.in-Err.end c.args.self.now.session c.args.self.now.pump
    c.next.new.self w
    (c.in-Err.ensures.end origin before given w.pump_is)

pub returns-in-Err-called-clause-end : goal.returns-in-Err-called-clause-end
returns-in-Err-called-clause-end g c first origin before given calls w =
    breaks-off _ _ first origin before given calls c.in-Ok.command c.args.self.now.session
    c.take_before_call.new.session c.call-called.new.session c.args.self.now.pump c.next.new.self
    c.take_before_call.ensures.session w (c.in-Ok.ensures.command origin before given w.pump_is)
    c.in-Err-called.ensures.memory

pub returns-clause-call : goal.returns-clause-call
returns-clause-call g c first origin before given calls w =
    calls-on _ _ first origin before given calls c.in-Ok.command c.args.self.now.session
    c.take_before_call.new.session c.call-called.new.session c.args.self.now.pump c.give_back.new.self
    c.take_before_call.ensures.session w
    (subst (λ p. IsPump origin before (given ++ c.in-Ok.command ∷ []) p) (sym c.give_back.ensures)
    (c.in-Ok.ensures.command origin before given w.pump_is).0)
    c.in-Ok-called.ensures.posted

pub returns-in-Err-called-clause-stands : goal.returns-in-Err-called-clause-stands
returns-in-Err-called-clause-stands g c asked first stands in_time =
    let dump = c.take_before_call.new.self in
    stands-broken _ _ asked dump.plan dump.taken first c.in-Ok.command c.take_before_call.new.session
    c.call-called.new.session (c.take_before_call.ensures.in_time asked first stands in_time)
    c.in-Err-called.ensures.memory (c.take_before_call.ensures.stands asked first stands)

pub returns-clause-stands : goal.returns-clause-stands
returns-clause-stands g c asked first stands in_time =
    let dump = c.take_before_call.new.self in
    stands-at_last _ _ asked dump.plan dump.taken first c.in-Ok.command c.take_before_call.new.session
    c.call-called.new.session (c.take_before_call.ensures.in_time asked first stands in_time)
    c.in-Ok-called.ensures.posted (c.take_before_call.ensures.stands asked first stands)

pub returns-clause-in_time : goal.returns-clause-in_time
returns-clause-in_time g c asked first stands in_time =
    in_time-at_last _ _ asked c.take_before_call.new.self.plan c.in-Ok.command c.take_before_call.new.session
    c.call-called.new.session (c.take_before_call.ensures.in_time asked first stands in_time)
    c.in-Ok-called.ensures.posted

pub returns-in-Err-called-clause-ring : goal.returns-in-Err-called-clause-ring
returns-in-Err-called-clause-ring g c =
    let memory = c.in-Err-called.ensures.memory in
    memory.refused.rest.ring ∙ memory.waited.keeps.rest.ring ∙ ap (λ s. s.ring) c.take_before_call.ensures.session.rest

pub returns-clause-ring : goal.returns-clause-ring
returns-clause-ring g c =
    let posted = c.in-Ok-called.ensures.posted in
    posted.posts.2.rest.ring ∙ posted.waited.keeps.rest.ring ∙ ap (λ s. s.ring) c.take_before_call.ensures.session.rest
