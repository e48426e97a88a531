use Rattle.std.proofs.Common.{◌++◌, refl, ap, ◌∙◌, arith, length, List}
use Rattle.reply_planner.specs.Parcels.{Sent}
use Rattle.drive_script.proofs.Quiets.{gathers_one, quiet_at_first, no_more_gathered}
use Rattle.drive_script.proofs.Steps.{able_of}
use Rattle.drive_script.proofs.Closing.{quiet_end}
use Rattle.drive_script.proofs.Ran.{gathers_out}
use Rattle.drive_script.proofs.driving.Driving.gather_all.Goals as goal

pub loop-i-init : goal.loop-i-init
loop-i-init g c =
    let going = c.requires.going in
    let able = able_of _ _ _ going.first going.events _ going.is in
    record {
      ring = able.ring;
      wire = able.wire;
      posted = refl;
      quietly = λ first events is. quiet_at_first _ _ _ first events _ is;
    }

pub returns-in-NothingPosted-clause-right : goal.returns-in-NothingPosted-clause-right
returns-in-NothingPosted-clause-right g c = λ first events is.
    let goes = c.loop-i.invariant.quietly first events is in
    quiet_end _ _ _ first events goes.quiet _ c.gather.result c.in-NothingPosted.is goes.are
    (c.gather.ensures.right first (events ++ goes.quiet) goes.is)

pub returns-in-NothingPosted-clause-out : goal.returns-in-NothingPosted-clause-out
returns-in-NothingPosted-clause-out g c = λ first events is.
    let goes = c.loop-i.invariant.quietly first events is in
    gathers_out _ _ _ _ first events (events ++ goes.quiet) _ _ goes.is c.gather.ensures.posted
    (c.gather.ensures.flushed c.in-NothingPosted.is)
    (quiet_end _ _ _ first events goes.quiet _ c.gather.result c.in-NothingPosted.is goes.are
    (c.gather.ensures.right first (events ++ goes.quiet) goes.is))

pub loop-i-preserved : goal.loop-i-preserved
loop-i-preserved g c = record {
  ring = c.gather.ensures.ring;
  wire = c.gather.ensures.wire;
  posted = c.gather.ensures.posted ∙ c.loop-i.invariant.posted;
  quietly = λ first events is. gathers_one _ _ _ first events c.loop-i.i _ _ c.gather.result c.gather.ensures.answers
      c.in_default.not-NothingPosted (λ before. c.gather.ensures.right first before)
      (c.loop-i.invariant.quietly first events is);
}

pub unreachable-requires : goal.unreachable-requires
unreachable-requires g c =
    let going = c.requires.going in
    let few = no_more_gathered _ _ _ going.first going.events c.loop-i.i _
    (c.loop-i.invariant.quietly going.first going.events going.is) in
    let posted = ap (λ (list : List Sent). length list) c.loop-i.invariant.posted in
    omega (arith, few, posted, c.loop-i-test.false, c.from-i-end.ensures, c.calls-made.ensures)
