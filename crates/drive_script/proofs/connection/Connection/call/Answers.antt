use Rattle.std.proofs.Common.{◌<◌, Some, sym, ◌∙◌, ap, subst}
use Rattle.view_sums.specs.Total.{Each}
use Rattle.drive_script.specs.Refused.{ended_by}
use Rattle.drive_script.specs.Running.{RunsOn}
use Rattle.drive_script.specs.Shown.{session_shown, device_shown}
use Rattle.drive_script.proofs.Called.{none_posted, nothing_more, same_stage, again, at_its_end, was_posted}
use Rattle.drive_script.proofs.Called.{was_refused}
use Rattle.drive_script.proofs.Ends.{both_shown}
use Rattle.drive_script.proofs.Running.{running_ends, running_posted, running_refused}
use Rattle.drive_script.proofs.connection.Connection.call.Goals as goal

pub returns-then-is_some-clause-right : goal.returns-then-is_some-clause-right
returns-then-is_some-clause-right g c = λ fixed given whole events origin before asked driven.
    let was = c.args.self.now in
    let z = g.P.PoolName.sizes in
    let shards = g.N.BookName.sizes.shards in
    let said = c.args.asking.now.end in
    again (λ now. RunsOn z shards given said was.session now said was.session) fixed given whole events origin before
    c.args.asking.now.kept c.args.asking.now.pump (session_shown g.P.PoolName.sizes was.session)
    (device_shown was.device.failed was.device.end) c.args.asking.now.end
    (sym c.if-is_some.ensures) asked driven (λ first running. running)

pub returns-in-Err-clause-right : goal.returns-in-Err-clause-right
returns-in-Err-clause-right g c = λ fixed given whole events origin before asked driven.
    let was = c.args.self.now in
    let z = g.P.PoolName.sizes in
    let shards = g.N.BookName.sizes.shards in
    let said = c.args.asking.now.end in
    let end = Some c.in-Err.end in
    at_its_end (λ now. RunsOn z shards given said was.session now end was.session) fixed given whole events origin
    before c.args.asking.now.kept c.args.asking.now.pump (session_shown g.P.PoolName.sizes was.session)
    (device_shown was.device.failed was.device.end) c.args.asking.now.end
    c.next.new.self.kept c.in-Err.end c.next.new.self.pump (sym c.if-is_some.ensures) asked driven
    (λ open_yet. c.in-Err.ensures.ended origin before given _ open_yet) c.next.ensures.kept
    (λ first. running_ends z shards first given said end was.session (sym c.if-is_some.ensures))

pub returns-in-Ok-called-clause-right : goal.returns-in-Ok-called-clause-right
returns-in-Ok-called-clause-right g c = λ fixed given whole events origin before asked driven.
    let z = g.P.PoolName.sizes in
    let was = c.args.self.now in
    let between = c.call-called.new.self in
    let session = c.both_ends.new.session in
    let device = c.both_ends.new.device in
    let shards = g.N.BookName.sizes.shards in
    let said = c.args.asking.now.end in
    let none = sym c.if-is_some.ensures in
    was_posted (λ now. RunsOn z shards given said was.session now c.next.new.self.end session) fixed given whole events
    origin before c.args.asking.now.kept c.args.asking.now.pump z _ was.session between (session_shown z session)
    (device_shown was.device.failed was.device.end) (device_shown device.failed device.end)
    (both_shown z between session was.device.failed device.failed was.device.end device.end c.both_ends.ensures.session
    c.both_ends.ensures.device c.both_ends.ensures.failed c.both_ends.ensures.order.0 c.both_ends.ensures.order.1)
    (record { is = c.is_session.ensures; small = c.requires.small }) c.in-Ok.command c.args.asking.now.end
    (sym c.if-is_some.ensures) asked driven
    c.next.new.self.pump (λ open_yet. c.in-Ok.ensures.command origin before given _ open_yet)
    (λ asks first. running_posted z shards first origin before given was.session between session _
    c.both_ends.ensures.session c.in-Ok.command c.next.new.self.pump asks said c.next.new.self.end none _ _ _ _
    c.in-Ok-called.ensures.posted)
    c.next.new.self.kept c.next.new.self.end _ _ _ _ _ c.next.ensures.kept c.next.ensures.end c.give_back.ensures
    c.in-Ok-called.ensures.posted

pub returns-in-Err-called-clause-posted : goal.returns-in-Err-called-clause-posted
returns-in-Err-called-clause-posted g c =
    nothing_more c.args.self.now.session.posted c.both_ends.new.session.posted c.call-called.new.self.posted
    (ap (λ s. s.posted) c.both_ends.ensures.session) (none_posted _ _ _ _ _ _ c.in-Err-called.ensures.refused)

pub returns-in-Err-called-clause-right : goal.returns-in-Err-called-clause-right
returns-in-Err-called-clause-right g c = λ fixed given whole events origin before asked driven.
    let z = g.P.PoolName.sizes in
    let was = c.args.self.now in
    let between = c.call-called.new.self in
    let session = c.both_ends.new.session in
    let device = c.both_ends.new.device in
    let shards = g.N.BookName.sizes.shards in
    let said = c.args.asking.now.end in
    let none = sym c.if-is_some.ensures in
    let end_is = c.refuse.ensures.end ∙ ap (ended_by c.in-Err-called.error) c.next.ensures.end in
    was_refused (λ now. RunsOn z shards given said was.session now c.refuse.new.self.end session) fixed given whole
    events origin before c.args.asking.now.kept c.args.asking.now.pump z _ was.session between
    (session_shown z session) (device_shown was.device.failed was.device.end)
    (device_shown device.failed device.end)
    (both_shown z between session was.device.failed device.failed was.device.end device.end c.both_ends.ensures.session
    c.both_ends.ensures.device c.both_ends.ensures.failed c.both_ends.ensures.order.0 c.both_ends.ensures.order.1)
    (record { is = c.is_session.ensures; small = c.requires.small }) c.in-Ok.command c.args.asking.now.end
    (sym c.if-is_some.ensures) asked driven
    c.next.new.self.pump (λ open_yet. c.in-Ok.ensures.command origin before given _ open_yet)
    (λ asks first. running_refused z shards first origin before given was.session between session _
    c.both_ends.ensures.session c.in-Ok.command c.next.new.self.pump asks said c.refuse.new.self.end none
    c.in-Err-called.error end_is c.in-Err-called.ensures.refused)
    c.refuse.new.self.kept c.refuse.new.self.end c.refuse.new.self.pump c.refuse.result c.in-Err-called.error _ _
    c.refuse.ensures.kept
    end_is c.refuse.ensures.pump c.refuse.ensures.happened
    (record {
      is = c.is_session-2.ensures;
      small = subst (Each (λ buffer. buffer < z.small)) (sym (same_stage _ _ _ _ _ _ c.in-Err-called.ensures.refused))
          c.requires.small;
    })
    c.in-Err-called.ensures.refused
