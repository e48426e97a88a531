use Rattle.std.proofs.Common.{◌∙◌, length}
use Rattle.command_pump.specs.Pump.{ended_at}
use Rattle.drive_script.proofs.Closing.{has_left}
use Rattle.drive_script.proofs.Ran.{has_driven}
use Rattle.drive_script.proofs.driving.Driving.leave.Goals as goal

pub close-seat-requires-clause-all : goal.close-seat-requires-clause-all
close-seat-requires-clause-all g c = λ _ _. let going = c.requires.going in
    (c.gather_all.ensures.right going.first going.events going.is).all

pub close-seat-requires-clause-told : goal.close-seat-requires-clause-told
close-seat-requires-clause-told g c = λ _ _. let going = c.requires.going in
    (c.gather_all.ensures.right going.first going.events going.is).told

pub returns : goal.returns
returns g c =
    let end_is = c.close-seat.ensures.end
    ∙ (λ i. ended_at (c.unwrap_or.ensures i) (c.taken.ensures i) (length
    c.gather_all.new.self.connection.session.posted)
    c.gather_all.new.self.connection.device.failed) in
    record {
      left = λ first events is.
          has_left _ _ _ first _ events (c.gather_all.ensures.right first events is) c.close-seat.result.end
          c.close-seat.result.mine c.in-Some.wire c.close-seat.ensures.list end_is c.in-Some.is;
      driven = λ first events is.
          has_driven _ _ _ _ first _ events (c.gather_all.ensures.out first events is) c.close-seat.result.end
          c.close-seat.result.mine c.close-seat.result.seat c.in-Some.wire c.close-seat.ensures.list
          c.close-seat.ensures.left end_is c.in-Some.is;
    }
