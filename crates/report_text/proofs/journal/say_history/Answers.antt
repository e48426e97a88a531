use Rattle.std.proofs.Common.{◌∙◌, arith}
use Rattle.report_text.proofs.Fronts.{history_failed, history_more}
use Rattle.report_text.proofs.Pieces.{keeps_then, on_err}
use Rattle.report_text.proofs.journal.say_history.Goals as goal

pub returns-in_err-say_entry-clause-failed : goal.returns-in_err-say_entry-clause-failed
returns-in_err-say_entry-clause-failed g c = on_err c.from_residual.result
    (history_failed c.args.shard c.loop-entry.entry-index c.args.history.now _ _ _ _ _ c.loop-entry.invariant.lines
    c.in_err-say_entry.ensures.failed)

pub loop-entry-preserved : goal.loop-entry-preserved
loop-entry-preserved g c = record {
  lines = history_more c.args.shard c.loop-entry.entry-index c.args.history.now _ _ _ _ _ _ _ (omega arith)
      c.loop-entry.invariant.lines c.in_ok-say_entry.ensures.ok;
  faults = c.in_ok-say_entry.ensures.cause.ok ∙ c.loop-entry.invariant.faults;
  files = keeps_then _ _ _ c.loop-entry.invariant.files c.say_entry.ensures.files;
  some = c.in_ok-say_entry.ensures.some;
  room = c.say_entry.ensures.capacity;
}
