use Rattle.std.proofs.Common.{arith}
use Rattle.test_replies.proofs.staging.lend_in_turn.Goals as goal

pub lend-requires-2-clause-stage : goal.lend-requires-2-clause-stage
lend-requires-2-clause-stage g c =
    omega (arith, c.requires.stage, c.in_ok-two.ensures.stage, c.in_ok-two.ensures.few.0)

pub lend-requires-3-clause-stage : goal.lend-requires-3-clause-stage
lend-requires-3-clause-stage g c =
    omega (
      arith,
      c.requires.stage,
      c.in_ok-two.ensures.stage,
      c.in_ok-one.ensures.stage,
      c.in_ok-one.ensures.few.0,
      c.take_back.ensures.stage,
    )

pub take_back-requires-2-clause-room : goal.take_back-requires-2-clause-room
take_back-requires-2-clause-room g c =
    omega (
      arith,
      c.requires.stage,
      c.in_ok-two.ensures.stage,
      c.in_ok-one.ensures.stage,
      c.take_back.ensures.stage,
      c.in_ok-three.ensures.stage,
    )

pub take_back-requires-3-clause-room : goal.take_back-requires-3-clause-room
take_back-requires-3-clause-room g c =
    omega (
      arith,
      c.requires.stage,
      c.in_ok-two.ensures.stage,
      c.in_ok-one.ensures.stage,
      c.take_back.ensures.stage,
      c.in_ok-three.ensures.stage,
      c.take_back-2.ensures.stage,
    )

pub returns-clause-stage : goal.returns-clause-stage
returns-clause-stage g c =
    omega (
      arith,
      c.in_ok-two.ensures.stage,
      c.in_ok-one.ensures.stage,
      c.take_back.ensures.stage,
      c.in_ok-three.ensures.stage,
      c.take_back-2.ensures.stage,
      c.take_back-3.ensures.stage,
    )

pub returns-clause-credits : goal.returns-clause-credits
returns-clause-credits g c =
    omega (
      arith,
      c.in_ok-two.ensures.credits,
      c.in_ok-one.ensures.credits,
      c.take_back.ensures.credits,
      c.in_ok-three.ensures.credits,
      c.take_back-2.ensures.credits,
      c.take_back-3.ensures.credits,
    )
