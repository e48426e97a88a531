use Rattle.std.proofs.Common.{length, ap, arith}
use Rattle.drive_script.specs.Driving.{driving_of}
use Rattle.std.specs.Vec.Iter.{into_iter_items}
use Rattle.drive_script.proofs.Rows.{first_goes, rest_goes, same_go, all_given, given_on, zip_more, zip_as}
use Rattle.drive_script.proofs.driven.leave_all.Goals as goal

pub loop-session-init : goal.loop-session-init
loop-session-init g c =
    let gives = c.into_iter-session-iterator.ensures.into_iter_gives in
    let long = ap length gives.0 in
    record {
      all = gives.0;
      left = omega (arith, gives.1, long, c.args.sessions.ok.0);
      done = rw c.requires.room.0 tt;
      rest = same_go _ _ _ _ c.args.sessions.items
          (λ d. driving_of d.connection.session d.connection.device.failed d.connection.device.end d.asking.kept
          d.asking.end
          d.asking.pump d.wire) gives.0 c.requires.going;
      room = omega (arith, long, c.requires.room.1, ap length c.requires.room.0, c.args.accounts.ok.0);
    }

pub leave-requires-clause-going : goal.leave-requires-clause-going
leave-requires-clause-going g c = λ _ _. first_goes _ _ _ (into_iter_items c.loop-session.session-iterator) _
    c.in-Some.session (λ d. driving_of d.connection.session d.connection.device.failed d.connection.device.end
    d.asking.kept d.asking.end
    d.asking.pump d.wire) c.in-Some.ensures.steps.0 c.loop-session.invariant.rest

pub loop-session-preserved : goal.loop-session-preserved
loop-session-preserved g c =
    let before = c.loop-session.invariant in
    let steps = c.in-Some.ensures.steps in
    record {
      all = given_on c.loop-session.yielded _ _ _ _ before.all steps.0;
      left = omega (arith, before.left, steps.1, ap length steps.0);
      done = zip_more c.loop-session.yielded c.loop-session.accounts.items _ c.in-Some.session _ _
          c.push_reserved.ensures.items before.done
          (λ first events is. (c.leave.ensures.left first events is, c.leave.ensures.driven first events is));
      rest = rest_goes _ _ _ (into_iter_items c.loop-session.session-iterator) _ c.in-Some.session
          (λ d. driving_of d.connection.session d.connection.device.failed d.connection.device.end d.asking.kept
          d.asking.end
          d.asking.pump d.wire) steps.0 before.rest;
      room = omega (
        arith,
        before.room,
        ap length steps.0,
        c.push_reserved.ensures.len,
        c.push_reserved.ensures.capacity,
      );
    }

pub returns : goal.returns
returns g c =
    let before = c.loop-session.invariant in
    zip_as c.loop-session.yielded _ c.loop-session.accounts.items _
    (all_given c.loop-session.yielded _ _ _ before.all before.left c.in-None.ensures.steps.0) before.done
