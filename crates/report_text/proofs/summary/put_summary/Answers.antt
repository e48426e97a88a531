use Rattle.std.proofs.Common.{arith, refl}
use Rattle.report_text.specs.Report.{dump_line, held_line}
use Rattle.report_text.proofs.Lines.{summary_step, summary_end}
use Rattle.report_text.proofs.summary.put_summary.Goals as goal

pub returns-clause-text : goal.returns-clause-text
returns-clause-text c =
    summary_end c.args.ends.now c.loop-session.session _ _ _ (dump_line c.args.dump) (held_line c.args.held)
    c.loop-session.invariant.lines c.put_dump.ensures.items c.put_held.ensures.items (omega arith)

pub loop-session-preserved : goal.loop-session-preserved
loop-session-preserved c = record {
  lines = summary_step c.args.ends.now c.loop-session.session _ _ _ _ c.loop-session.invariant.lines refl
      c.put_session.ensures.items (omega arith);
  len = omega (arith, c.loop-session.invariant.len, c.put_session.ensures.len);
  room = omega (arith, c.loop-session.invariant.room, c.put_session.ensures.capacity);
}
