use Rattle.std.proofs.Common.{arith, sym, ◌≤◌, ◌+◌}
use Rattle.mtu_frames.specs.Held.{frames_in, frame_with}
use Rattle.mtu_frames.proofs.Keeping.{before_next, before_call}
use Rattle.mtu_frames.proofs.held.missing_from.Goals as goal

pub loop-call-init : goal.loop-call-init
loop-call-init c = (c.requires.call, c.requires.before)

pub returns-in-None : goal.returns-in-None
returns-in-None c = record {
  in_range = c.loop-call-test.true;
  absent = sym c.in-None.ensures;
  counted = c.loop-call.invariant.1.counted;
  here = c.loop-call.invariant.1.here;
  before = c.loop-call.invariant.1.whole;
}

pub overflow_add-frame : goal.overflow_add-frame
overflow_add-frame c =
    let at = sym c.in-Some.ensures in
    let low = c.loop-call.invariant.1.counted _ _ at in
    let high = (c.requires.kept.below _ _ _ at).1 in
    omega (arith, low, high)

pub loop-call-preserved-then-frame-cut : goal.loop-call-preserved-then-frame-cut
loop-call-preserved-then-frame-cut c = (
  c.loop-call.invariant.0,
  before_next _ _ _ _ c.requires.kept c.loop-call.invariant.1
      (sym c.in-Some.ensures) c.if-frame-cut.true,
)

pub overflow_add-frame-in-Some : goal.overflow_add-frame-in-Some
overflow_add-frame-in-Some c =
    let at = sym c.in-Some.ensures in
    let low = c.loop-call.invariant.1.counted _ _ at in
    let high = (c.requires.kept.below _ _ _ at).1 in
    omega (arith, low, high)

pub loop-call-smaller : goal.loop-call-smaller
loop-call-smaller c =
    let at = sym c.in-Some.ensures in
    let low = c.loop-call.invariant.1.counted _ _ at in
    let high = (c.requires.kept.below _ _ _ at).1 in
    let test = c.loop-call-test.true in
    omega (arith, low, high, test)

pub loop-call-preserved : goal.loop-call-preserved
loop-call-preserved c =
    let test = c.loop-call-test.true in (
      omega (arith, test),
      before_call _ _ _ _ c.requires.kept c.loop-call.invariant.1
          (sym c.in-Some.ensures) c.if-frame-cut.false,
    )

pub returns : goal.returns
returns c = λ earlier lt. c.loop-call.invariant.1.whole earlier
    (let past = c.loop-call-test.false in omega (arith, lt, past))
