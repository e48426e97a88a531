use Rattle.std.proofs.Common.{◌∙◌, arith, false, true}
use Rattle.report_text.proofs.Fronts.{journal_said, shards_failed, shards_more}
use Rattle.report_text.proofs.Pieces.{err_then, keeps_then, ok_then, on_err}
use Rattle.report_text.proofs.journal.say_journal.Goals as goal

pub returns-in_err-say_history-clause-failed : goal.returns-in_err-say_history-clause-failed
returns-in_err-say_history-clause-failed g c = on_err c.from_residual.result
    (shards_failed c.loop-shard.shard c.args.journal.now.items c.get.result.now _ _ _ _ _ c.as_slice.ensures
    c.get.ensures.item c.loop-shard.invariant.lines c.in_err-say_history.ensures.failed)

pub loop-shard-preserved : goal.loop-shard-preserved
loop-shard-preserved g c = record {
  lines = shards_more c.loop-shard.shard c.args.journal.now.items c.get.result.now _ _ _ _ _ _ c.as_slice.ensures
      c.get.ensures.item c.loop-shard.invariant.lines c.in_ok-say_history.ensures.ok;
  faults = c.in_ok-say_history.ensures.cause.ok ∙ c.loop-shard.invariant.faults;
  files = keeps_then _ _ _ c.loop-shard.invariant.files c.say_history.ensures.files;
  some = c.in_ok-say_history.ensures.some;
  room = c.say_history.ensures.capacity;
}

pub returns-clause-ok : goal.returns-clause-ok
returns-clause-ok g c = ok_then c.say.result c.say.ensures.ok
    (journal_said false c.loop-shard.shard c.args.journal.now.items _ _ _ _ _ (omega arith) c.as_slice-2.ensures.value
    c.loop-shard.invariant.lines)

pub returns-clause-failed : goal.returns-clause-failed
returns-clause-failed g c = err_then c.say.result c.say.ensures.failed
    (journal_said true c.loop-shard.shard c.args.journal.now.items _ _ _ _ _ (omega arith) c.as_slice-2.ensures.value
    c.loop-shard.invariant.lines)
