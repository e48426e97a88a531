use Rattle.drive_script.specs.Happened.{line_event}
use Rattle.drive_script.proofs.Steps.{driven_at_first, able_at, is_there, step_driven}
use Rattle.drive_script.proofs.lines.drive_lines.Goals as goal

pub loop-line-init : goal.loop-line-init
loop-line-init g c = record {
  driven = driven_at_first _ _ _ _ (g.H.Host.host_told c.args.host.now) c.requires.fresh;
  room = c.requires.room;
}

pub act-happened-requires-clause-able : goal.act-happened-requires-clause-able
act-happened-requires-clause-able g c =
    λ κs outlives. able_at _ _ _ _ _ _ c.loop-line.sessions.items c.from.result c.index_mut.result.now
    c.loop-line.failed _ _
    (is_there _ _ _ _ c.args.sessions.now.items c.loop-line.sessions.items c.args.schedule.now _
    c.loop-line.line-index _ c.session-session.result c.from.result c.loop-line.failed _ _ c.requires.there
    c.loop-line-test.true c.session-session.ensures c.from.ensures c.loop-line.invariant.driven)
    c.index_mut.ensures.value c.loop-line.invariant.driven

pub loop-line-preserved : goal.loop-line-preserved
loop-line-preserved g c = record {
  driven = step_driven _ _ _ _ _ c.args.schedule.now c.loop-line.line-index _ c.loop-line.sessions.items
      c.session-session.result c.from.result c.index_mut.result.now c.act-happened.new.self
      (line_event c.act-happened.result c.act-happened.new.sent.items c.act-happened.new.stored.items)
      c.loop-line.failed c.say_line-failed.result (g.H.Host.host_told c.args.host.now)
      (g.H.Host.host_told c.loop-line.host)
      (g.H.Host.host_told c.say_line-failed.new.host) c.loop-line-test.true c.session-session.ensures c.from.ensures
      (is_there _ _ _ _ c.args.sessions.now.items c.loop-line.sessions.items c.args.schedule.now _
      c.loop-line.line-index _ c.session-session.result c.from.result c.loop-line.failed _ _ c.requires.there
      c.loop-line-test.true c.session-session.ensures c.from.ensures c.loop-line.invariant.driven)
      c.index_mut.ensures.value c.act-happened.ensures.answers c.act-happened.ensures.right
      c.say_line-failed.ensures.said c.loop-line.invariant.driven;
  room = c.say_line-failed.ensures.room;
}
