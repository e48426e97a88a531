use Rattle.std.proofs.Common.{◌≡◌, ℕ, ◌<◌, List, Some, length, take, slice_get}
use Rattle.flake_base.specs.declared.journal.Entry.{Entry}
use Rattle.flake_model.specs.Journal.{answers_of}
use Rattle.flake_base.specs.Histories.{histories}
use Rattle.replay_check.specs.InOrder.{AreInOrder}
use Rattle.replay_check.specs.Places.{told}
use Rattle.replay_check.specs.Noted.{AreNoted}
use Rattle.replay_check.proofs.replay.replay.Given as goal

-- the first shards are in order, and their answers are noted
abbrev pub invariant-loop-shard : goal.invariant-loop-shard
invariant-loop-shard l = record {
  noted : AreNoted (told l.sessions) (answers_of (told l.sessions) (take l.shard (histories l.journal.items)))
      l.slots.items;
  in_order : (other : ℕ) (history : List Entry) → other < l.shard → slice_get (histories l.journal.items) other
      ≡ Some history
      → AreInOrder (told l.sessions) (length (histories l.journal.items)) other history;
}
