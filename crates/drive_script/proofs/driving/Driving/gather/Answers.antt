use Rattle.std.proofs.Common.{sym, ◌∙◌, refl}
use Rattle.drive_script.proofs.OneMore.{gather_goes_on}
use Rattle.drive_script.proofs.driving.Driving.gather.Goals as goal

pub returns-clause-right : goal.returns-clause-right
returns-clause-right g c = λ first events was.
    gather_goes_on _ _ _ first _ _ events _ c.in-Some.wire c.gather-wire.result.0
    (sym c.take.ensures.value ∙ c.in-Some.is) c.gather-wire.ensures.ring c.gather-wire.ensures.pass
    c.gather-wire.ensures.posted refl refl refl refl
    (λ start given connection. c.gather-wire.ensures.right _ start given _ events connection) c.gather-wire.ensures.runs
    was

pub returns-clause-flushed : goal.returns-clause-flushed
returns-clause-flushed g c = λ none.
    let only = c.gather-wire.ensures.flushed none in
    record {
      completed = only.0;
      before = c.in-Some.wire;
      before_is = sym c.take.ensures.value ∙ c.in-Some.is;
      behind = c.gather-wire.result.0;
      behind_is = refl;
      flushed = only.1;
    }
