use Rattle.std.proofs.Common.{◌≡◌, ℕ, ◌<◌, ◌++◌, List, length, take, vec_len}
use Rattle.std.specs.List.{flat_map}
use Rattle.std.specs.FinMap as finite
use Rattle.flake_base.specs.declared.journal.Entry.{Entry}
use Rattle.flake_model.specs.Store.{Answer}
use Rattle.flake_model.specs.Journal.{step_of, answers_from, store_after}
use Rattle.byte_store.specs.Store.{HoldsStore}
use Rattle.replay_check.specs.InOrder.{IsInOrder}
use Rattle.replay_check.specs.Places.{told, ArePlaced, AreAt}
use Rattle.replay_check.specs.Noted.{AreNoted}
use Rattle.replay_check.proofs.replay.replay_shard.Given as goal

-- the first entries are in order, and their answers are noted
abbrev pub invariant-loop-place : goal.invariant-loop-place
invariant-loop-place l = record {
  noted : (before : List (Entry × Answer)) → AreNoted (told l.sessions) before l.fn.slots.items
      → AreNoted (told l.sessions)
      (before ++ answers_from finite.empty (flat_map (step_of (told l.sessions)) (take l.place l.history)))
      l.slots.items;
  held : HoldsStore l.store (store_after finite.empty (flat_map (step_of (told l.sessions)) (take l.place l.history)));
  at : (shards : ℕ) → ArePlaced shards l.sessions → AreAt (told l.sessions) shards l.shard (take l.place l.history)
      l.cursors.items;
  in_order : (shards : ℕ) → ArePlaced shards l.sessions → (k : ℕ) → k < l.place
      → IsInOrder (told l.sessions) shards l.shard l.history k;
  count : vec_len l.cursors ≡ length l.sessions;
  slots : vec_len l.slots ≡ length l.sessions;
}
