use Rattle.std.proofs.Common.{◌≡◌, ◌++◌, take}
use Rattle.journal_text.proofs.Placing.{at_shard}
use Rattle.journal_text.proofs.Written.{entries_text}
use Rattle.journal_text.proofs.writing.put_history.Given as goal

-- the lines so far
abbrev pub invariant-loop-entry : goal.invariant-loop-entry
invariant-loop-entry l = l.text.items ≡ l.fn.text.items
    ++ entries_text (at_shard l.shard (take l.entry-index l.history))
