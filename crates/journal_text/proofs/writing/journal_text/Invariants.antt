use Rattle.std.proofs.Common.{◌≡◌, ◌++◌, ◌∷◌, [], length, take}
use Rattle.flake_base.specs.Histories.{histories}
use Rattle.journal_text.specs.Text.{placed_from, head_line}
use Rattle.journal_text.proofs.Written.{entries_text}
use Rattle.journal_text.proofs.writing.journal_text.Given as goal

-- the head, and the lines of the shards so far
abbrev pub invariant-loop-shard : goal.invariant-loop-shard
invariant-loop-shard l = l.text.items ≡ (head_line (length l.journal.items) ++ 10 ∷ [])
    ++ entries_text (placed_from 0 (histories (take l.shard l.journal.items)))
