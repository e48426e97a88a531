use Rattle.std.proofs.Common.{ap, sym, refl, ◌∙◌, subst}
use Rattle.flake_model.specs.Command.{fault}
use Rattle.command_pump.specs.Pump.{SeeksNext, AnswersEnd, PumpState, bytes_taken}
use Rattle.command_pump.proofs.Pumped.{at_request, quiet_request, at_refusal, quiet_refusal, at_last, taken_again}
use Rattle.command_pump.proofs.Pumped.{unchanged_reader, same_again, seeks}
use Rattle.command_pump.proofs.pump.Pump.next.Goals as goal

pub loop-request-init : goal.loop-request-init
loop-request-init g c = record {
  kept = λ input before given p. seeks input before given _ p;
  again = λ end over. refl;
}

pub returns-in-Some-clause-command : goal.returns-in-Some-clause-command
returns-in-Some-clause-command g c input before given p =
    let q = subst (SeeksNext input before given) (sym c.self.view_is)
    (c.loop-request.invariant.kept input before given p)
    in (
      at_request input before given _ c.next.new.self c.in-Some.request c.of.result c.in-Some.ensures.request
          c.next.ensures.closed c.in-Some.ensures.fed c.of.ensures q,
      quiet_request input before given _ c.next.new.self c.in-Some.request c.in-Some.ensures.request q,
    )

pub returns-in-Some-clause-again : goal.returns-in-Some-clause-again
returns-in-Some-clause-again g c end over =
    absurd (cc (
      c.in-Some.ensures.request,
      ap (λ (v : PumpState). v.reader.requests)
          (c.self.view_is ∙ c.loop-request.invariant.again end over),
      over.none,
    ))

pub returns-in-Refused-clause-command : goal.returns-in-Refused-clause-command
returns-in-Refused-clause-command g c input before given p =
    let none = c.in_default.ensures.none.0 refl in
    let q = subst (SeeksNext input before given) (sym c.self.view_is)
    (c.loop-request.invariant.kept input before given p)
    in (
      at_refusal input before given _ c.in-Refused.broken _ c.in-Refused.place c.protocol.result c.next.new.self
          c.kind-kind.ensures c.in-Refused.is none (sym c.in_default.ensures.request ∙ none)
          (c.protocol.ensures ∙ ap fault c.error.ensures) q,
      quiet_refusal input before given _ c.in-Refused.broken c.in-Refused.place c.in-Refused.is q,
    )

pub returns-in-Refused-clause-again : goal.returns-in-Refused-clause-again
returns-in-Refused-clause-again g c end over =
    absurd (cc (
      c.in-Refused.is,
      ap (λ (v : PumpState). v.stage)
          (c.self.view_is ∙ c.loop-request.invariant.again end over),
      over.stage,
    ))

pub returns-in-Ended-clause-end : goal.returns-in-Ended-clause-end
returns-in-Ended-clause-end g c input before given p =
    let q = subst (SeeksNext input before given) (sym c.self.view_is)
    (c.loop-request.invariant.kept input before given p)
    in
    at_last input before given _ c.in-Ended.end _ c.next.new.self c.in-Ended.is (c.in_default.ensures.none.0 refl)
    c.taken_at-self-inside.ensures q

pub returns-in-Ended-clause-over : goal.returns-in-Ended-clause-over
returns-in-Ended-clause-over g c = record {
  stage = c.in-Ended.is;
  none = sym c.in_default.ensures.request ∙ c.in_default.ensures.none.0 refl;
  taken = c.taken_at-self-inside.ensures ∙ sym (taken_again c.in-Ended.end _) ∙ ap (bytes_taken c.in-Ended.end)
      (sym c.taken_at-self-inside.ensures);
}

pub returns-in-Ended-clause-again : goal.returns-in-Ended-clause-again
returns-in-Ended-clause-again g c end over =
    let same = c.self.view_is ∙ c.loop-request.invariant.again end over in
    let at = subst (AnswersEnd end) (sym same) over in (
      cc (c.in-Ended.is, at.stage),
      same_again end c.in-Ended.end _ c.next.new.self _ at c.in-Ended.is
          (unchanged_reader _ c.next.new.self c.next.ensures.front c.next.ensures.closed c.in_default.ensures.request)
          c.taken_at-self-inside.ensures ∙ same,
    )
