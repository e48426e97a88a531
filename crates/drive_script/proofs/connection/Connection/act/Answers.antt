use Rattle.std.proofs.Common.{[], sym, ◌∙◌, arith, append-nil}
use Rattle.drive_script.specs.Running.{RunsOn}
use Rattle.drive_script.specs.Shown.{session_shown, device_shown}
use Rattle.drive_script.proofs.Acted.{call_goes, reap_goes, stays_asked, connection_same}
use Rattle.drive_script.proofs.ByPuts.{puts_are_sending}
use Rattle.drive_script.proofs.Counted.{call_counts, gather_counts}
use Rattle.drive_script.proofs.connection.Connection.act.Goals as goal

pub returns-in-Call-clause-right : goal.returns-in-Call-clause-right
returns-in-Call-clause-right g c = λ fixed start given events origin before asked connection.
    let z = g.P.PoolName.sizes in
    let was = c.args.self.now in
    let now = c.call-happened.new.self in
    call_goes _ (puts_are_sending _ _) fixed start given events _ (session_shown z was.session)
    (session_shown z now.session) (device_shown was.device.failed was.device.end)
    (device_shown now.device.failed now.device.end) c.args.wire
    c.call-happened.ensures.failed c.call-happened.ensures.posted.0 c.call-happened.ensures.posted.1
    c.call-happened.ensures.posted.2
    (λ list. RunsOn z g.N.BookName.sizes.shards given c.args.asking.now.end was.session list
    c.call-happened.new.asking.end now.session) origin before _ _ _ c.args.asking.now.end _ connection
    (c.call-happened.ensures.right fixed given connection.whole events origin before asked connection.driven)

pub returns-in-Gather-clause-right : goal.returns-in-Gather-clause-right
returns-in-Gather-clause-right g c = λ fixed start given events origin before asked connection.
    let was = c.args.self.now in
    stays_asked origin before given was.session.posted c.gather.new.self.session.posted _ _ _ _ c.gather.ensures.posted
    asked (
      connection_same _ fixed start given _ events _ _ _ _ _
          (c.gather.ensures.lists c.args.sent.now.items c.args.stored.now.items)
          (c.gather.ensures.right fixed start given c.args.asking.now.end events connection),
      c.gather.ensures.runs given c.args.asking.now.end,
    )

pub returns-in-Reap-clause-right : goal.returns-in-Reap-clause-right
returns-in-Reap-clause-right g c = λ fixed start given events origin before asked connection.
    let z = g.P.PoolName.sizes in
    let was = c.args.self.now in
    let now = c.reap-happened.new.self in
    stays_asked origin before given was.session.posted now.session.posted _ _ _ _ c.reap-happened.ensures.posted asked (
      connection_same _ fixed start given _ events _ _ _ _ _
          (c.reap-happened.ensures.lists c.args.sent.now.items c.args.stored.now.items)
          (reap_goes _ (puts_are_sending _ _) fixed start given events _ (session_shown z was.session)
          (session_shown z now.session) (device_shown was.device.failed was.device.end)
          (device_shown now.device.failed now.device.end) c.args.wire
          c.reap-happened.ensures.failed [] (c.reap-happened.ensures.posted ∙ sym (append-nil was.session.posted))
          (omega arith) c.args.asking.now.end connection
          (c.reap-happened.ensures.right fixed given c.args.asking.now.end connection.whole events connection.driven)),
      c.reap-happened.ensures.runs given c.args.asking.now.end,
    )

pub returns-in-Call-clause-recycles : goal.returns-in-Call-clause-recycles
returns-in-Call-clause-recycles g c = call_counts c.call-happened.result c.args.self.now.session
    c.call-happened.new.self.session (c.call-happened.ensures.answers 0 [] [])

pub returns-in-Gather-clause-recycles : goal.returns-in-Gather-clause-recycles
returns-in-Gather-clause-recycles g c = gather_counts c.gather.result.1 c.args.self.now.session
    c.gather.new.self.session (c.gather.ensures.answers 0)
