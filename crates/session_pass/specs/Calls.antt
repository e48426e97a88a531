-- What a session's calls do.
use Rattle.std.specs.Prelude.{◌≡◌, ℕ, ◌+◌, ◌<◌, ◌≤◌, ◌⊎◌, List, [], ◌∷◌, ◌++◌, true, length, slice_get, Some}
use Rattle.view_sums.specs.Total.{Each}
use Rattle.pin_core.specs.declared.sizes.Sizes.{Sizes}
use Rattle.flake_base.specs.declared.segment.Seg.{Seg}
use Rattle.flake_model.specs.Command.{Command, parts}
use Rattle.reply_layout.specs.Frames.{frame_from}
use Rattle.reply_layout.specs.Need.{need_of}
use Rattle.reply_planner.specs.Owned.{bare_all, fresh_all}
use Rattle.reply_planner.specs.Parcels.{Sent}
use Rattle.reply_planner.specs.Places.{buffer_addresses}
use Rattle.shard_core.specs.Outcomes.{Outcomes, call_deeds}
use Rattle.shard_core.specs.Calls.{IsExecuted, IsCutShort}
use Rattle.shard_core.specs.Parts.{call_segs, IsInBuffer}
use Rattle.command_exec.specs.Executed.{frame_shown}
use Rattle.session_pass.specs.Views.{SessionView}
use Rattle.session_pass.specs.Waiting.{waiting, room_left, free_of, FitsBeside}

-- what no call changes
pub record KeepsRest (old new : SessionView) : Type 0 where
  pub number : new.pass.list.number ≡ old.pass.list.number
  pub looks : new.pass.list.looks ≡ old.pass.list.looks
  pub stage : new.pass.stage ≡ old.pass.stage
  pub threshold : new.pass.threshold ≡ old.pass.threshold
  pub opened : new.opened ≡ old.opened
  pub ring : new.ring ≡ old.ring
  pub told : new.told ≡ old.told

-- what no reap changes
pub record KeepsAll (old new : SessionView) : Type 0 where
  pub rest : KeepsRest old new
  pub list : new.pass.list ≡ old.pass.list
  pub claims : new.pass.seat.claims ≡ old.pass.seat.claims
  pub looks : new.pass.seat.looks ≡ old.pass.seat.looks
  pub posted : new.posted ≡ old.posted
  pub stopped : new.stopped ≡ old.stopped

-- A call was executed, and its reply was posted behind as few reaps as make room for it.
pub record CallPosts (z : Sizes) (shards : ℕ) (command : Command) (old new : SessionView) (call freed : ℕ)
    (sent stored : List Seg) : Type 0 where
  pub outcomes : Outcomes
  pub parcel : Sent
  pub executed : IsExecuted z old.pass.threshold shards old.pass.list.number (length old.posted) command outcomes
      parcel.text parcel.paid old.pass.list.told new.pass.list.told old.pass.seat new.pass.seat
  -- the oldest replies were reaped, so many that the need is there, and no more
  pub gone : List Sent
  pub freed_is : length gone ≡ freed
  pub reaped : new.reaped ≡ old.reaped ++ gone
  pub fits : FitsBeside old.ring old.pass.stage (waiting old freed) (need_of command)
  pub least : (fewer : ℕ) → fewer < freed
      → FitsBeside old.ring old.pass.stage (waiting old fewer) (need_of command) → ⊥
  pub posted : new.posted ≡ old.posted ++ parcel ∷ []
  pub call_is : call ≡ length old.posted
  pub numbered : parcel.call ≡ call
  -- it is laid out over the addresses that the deeds found and the first free staging buffers
  pub laid_out : frame_shown z parcel
      ≡ frame_from old.pass.threshold (buffer_addresses z (free_of old.pass.stage (waiting old freed))) command
      (call_deeds old.pass.list.number (length old.posted) 0 (parts command) outcomes)
  pub sent_is : sent ≡ parcel.segments
  pub stored_is : stored ≡ call_segs (parts command) outcomes
  pub in_buffers : Each (IsInBuffer z) stored
  pub rest : KeepsRest old new
  pub misses : new.misses ≡ old.misses
  pub stopped : new.stopped ≡ old.stopped

-- the same, whatever its segments are
abbrev pub PostsOne : Sizes → ℕ → Command → SessionView → SessionView → ℕ → ℕ → Type 0
PostsOne z shards command old new call freed =
    (sent stored : List Seg) × CallPosts z shards command old new call freed sent stored

-- Some of the oldest replies were reaped, and the next one was found not to be sent.
pub record CallReaps (old new : SessionView) : Type 0 where
  pub gone : List Sent
  pub reaped : new.reaped ≡ old.reaped ++ gone
  pub keeps : KeepsAll old new
  pub told : old.told ≤ length new.reaped
  pub miss : new.misses ≡ old.misses ++ length new.reaped ∷ []
  pub more : length new.reaped < length new.posted

-- and the ring has fewer descriptors than the command needs
pub record FindsRingFull (command : Command) (old new : SessionView) (need room : ℕ) : Type 0 where
  pub reaps : CallReaps old new
  pub needs : need ≡ (need_of command).descriptors
  pub has : room ≡ room_left new.ring (waiting new 0)
  pub less : room < need

-- and the stage has fewer buffers, though the ring has enough descriptors
pub record FindsStageFull (command : Command) (old new : SessionView) (need free : ℕ) : Type 0 where
  pub reaps : CallReaps old new
  pub enough : (need_of command).descriptors ≤ room_left new.ring (waiting new 0)
  pub needs : need ≡ (need_of command).stage
  pub has : free ≡ length (free_of new.pass.stage (waiting new 0))
  pub less : free < need

-- Memory was wanting: as few of the oldest replies were reaped as make room, or fewer, some of the first parts were
-- run, and no reply was made. Later calls do nothing.
pub record CallRefused (z : Sizes) (shards : ℕ) (command : Command) (old new : SessionView) : Type 0 where
  pub outcomes : Outcomes
  pub cut : IsCutShort z shards old.pass.list.number (length old.posted) command outcomes
      old.pass.list.told new.pass.list.told old.pass.seat new.pass.seat
  pub gone : List Sent
  pub reaped : new.reaped ≡ old.reaped ++ gone
  pub least : (fewer : ℕ) → fewer < length gone
      → FitsBeside old.ring old.pass.stage (waiting old fewer) (need_of command) → ⊥
  pub posted : new.posted ≡ old.posted
  pub rest : KeepsRest old new
  pub misses : new.misses ≡ old.misses
  pub stopped : new.stopped ≡ true

-- The oldest reply that waits was given back, so many of whose holds were the last of their buffers: the seat has its
-- staging buffers, its credit and those of its pins again.
pub record ReapsOne (old new : SessionView) (call recycled : ℕ) : Type 0 where
  pub parcel : Sent
  pub oldest : slice_get old.posted (length old.reaped) ≡ Some parcel
  pub reaped : new.reaped ≡ old.reaped ++ parcel ∷ []
  pub call_is : call ≡ parcel.call
  pub recycles : recycled ≤ parcel.pinned
  -- the buffers whose last hold was given back
  pub ended : List ℕ
  pub lasts : new.pass.seat.lasts ≡ old.pass.seat.lasts ++ ended
  pub counts : length ended ≡ recycled
  pub holds : bare_all new.pass.seat.holds ≡ bare_all old.pass.seat.holds ++ fresh_all parcel.staged
  pub credits : new.pass.seat.credits ≡ old.pass.seat.credits + 1 + parcel.paid
  pub returns : new.pass.seat.returns ≡ old.pass.seat.returns + parcel.paid
  pub keeps : KeepsAll old new
  pub misses : new.misses ≡ old.misses

-- Nothing waits, or the oldest reply was found not to be sent.
pub record ReapsNone (old new : SessionView) : Type 0 where
  pub new_is : new ≡ record old { misses = new.misses }
  pub told : old.told ≤ length old.reaped
  pub cause : ((old.posted ≡ old.reaped) × (new.misses ≡ old.misses))
      ⊎ ((new.misses ≡ old.misses ++ length old.reaped ∷ []) × (length old.reaped < length old.posted))
