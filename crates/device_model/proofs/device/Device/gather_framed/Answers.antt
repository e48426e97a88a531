use Rattle.std.specs.Prelude.{Some}
use Rattle.std.proofs.Common.{rules, ap}
use Rattle.tx_ring.specs.Jobs.{frame_of}
use Rattle.device_model.proofs.Forwarding.{forwards-one, forwards-none}
use Rattle.device_model.proofs.device.Device.gather_framed.Goals as goal

pub returns-then-failed-clause-forwards : goal.returns-then-failed-clause-forwards
returns-then-failed-clause-forwards g c =
    forwards-one (Some c.args.mtu) _ _ _ _ _ _ _ (frame_of c.in-Frame.job) _ _ (search rules)
    (search rules) c.send_framed-wire.ensures.sends

pub returns-else-failed-clause-forwards : goal.returns-else-failed-clause-forwards
returns-else-failed-clause-forwards g c =
    forwards-one (Some c.args.mtu) _ _ _ _ _ _ _ (frame_of c.in-Frame.job) _ _ (search rules)
    (search rules) c.send_framed-wire.ensures.sends

pub returns-then-failed-clause-put : goal.returns-then-failed-clause-put
returns-then-failed-clause-put g c =
    forwards-one (Some c.args.mtu) _ _ _ _ _ _ _ (frame_of c.in-Frame.job) _ _ (search rules)
    (search rules) c.send_framed-wire.ensures.sends

pub returns-else-failed-clause-put : goal.returns-else-failed-clause-put
returns-else-failed-clause-put g c =
    forwards-one (Some c.args.mtu) _ _ _ _ _ _ _ (frame_of c.in-Frame.job) _ _ (search rules)
    (search rules) c.send_framed-wire.ensures.sends

pub returns-in-Empty-clause-forwards : goal.returns-in-Empty-clause-forwards
returns-in-Empty-clause-forwards g c =
    forwards-none (Some c.args.mtu) _ _ _ _ _ _ _ _ (ap (λ m. m.completed) c.in-Empty.ensures.empty.view)
    c.flush_unless_failed-wire.ensures

pub returns-in-Closed-clause-forwards : goal.returns-in-Closed-clause-forwards
returns-in-Closed-clause-forwards g c =
    forwards-none (Some c.args.mtu) _ _ _ _ _ _ _ _ (ap (λ m. m.completed) c.in-Closed.ensures.closed.view)
    c.flush_unless_failed-wire-in-Closed.ensures

pub returns-then-failed-clause-frames : goal.returns-then-failed-clause-frames
returns-then-failed-clause-frames g c = record {
  reply = c.frame.result.now;
  completed_is = search rules;
  frames = c.send_framed-wire.ensures.frames;
}

pub returns-else-failed-clause-frames : goal.returns-else-failed-clause-frames
returns-else-failed-clause-frames g c = record {
  reply = c.frame.result.now;
  completed_is = search rules;
  frames = c.send_framed-wire.ensures.frames;
}
