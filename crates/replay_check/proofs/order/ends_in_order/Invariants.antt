use Rattle.std.proofs.Common.{ℕ, ◌<◌, List}
use Rattle.flake_base.specs.declared.journal.Entry.{Entry}
use Rattle.replay_check.specs.InOrder.{AreWrites, left_behind}
use Rattle.replay_check.specs.Places.{told, ArePlaced, AreAt}
use Rattle.replay_check.proofs.order.ends_in_order.Given as goal

-- the sessions so far have only writes left
abbrev pub invariant-loop-number : goal.invariant-loop-number
invariant-loop-number l = (shards : ℕ) (earlier : List Entry) → ArePlaced shards l.sessions
    → AreAt (told l.sessions) shards l.shard earlier l.cursors
    → (session : ℕ) → session < l.number → AreWrites (left_behind (told l.sessions) shards l.shard earlier session)
