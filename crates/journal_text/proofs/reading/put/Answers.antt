use Rattle.std.proofs.Common.{arith}
use Rattle.journal_text.proofs.HasReads.{entered_at}
use Rattle.journal_text.proofs.reading.put.Goals as goal

pub returns-clause-entered : goal.returns-clause-entered
returns-clause-entered c = entered_at c.args.lists.now.items c.args.shard c.index_mut.result.now c.push.new.self
    c.args.entry (omega arith) c.index_mut.ensures.value c.in_ok-push.ensures.ok
