use Rattle.std.proofs.Common.{sym, ◌∙◌, refl}
use Rattle.drive_script.proofs.OneMore.{goes_on}
use Rattle.drive_script.proofs.driving.Driving.act.Goals as goal

pub returns-clause-right : goal.returns-clause-right
returns-clause-right g c = λ first events was.
    goes_on _ _ _ first _ _ events _ c.in-Some.wire c.act-wire.result.0 (sym c.take.ensures.value ∙ c.in-Some.is)
    c.act-wire.ensures.ring c.act-wire.ensures.stage refl
    (λ start given asked connection. c.act-wire.ensures.right _ start given events _ _ asked connection) was
