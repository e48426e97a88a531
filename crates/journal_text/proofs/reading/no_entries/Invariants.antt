use Rattle.std.proofs.Common.{◌≡◌, [], replicate}
use Rattle.flake_base.specs.Histories.{histories}
use Rattle.journal_text.proofs.reading.no_entries.Given as goal

abbrev pub invariant-loop-shard : goal.invariant-loop-shard
invariant-loop-shard l = histories l.lists.items ≡ replicate l._shard []
