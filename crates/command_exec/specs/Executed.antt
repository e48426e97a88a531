-- What the execution of a call makes of a pass.
use Rattle.std.specs.Prelude.{◌≡◌, ℕ, ◌+◌, ◌<◌, ◌≤◌, List, ◌++◌, length, take, drop}
use Rattle.view_sums.specs.Total.{Each}
use Rattle.pin_core.specs.declared.sizes.Sizes.{Sizes}
use Rattle.pinned_pool.specs.Moves.{without_keys}
use Rattle.flake_base.specs.declared.segment.Seg.{Seg}
use Rattle.flake_model.specs.Command.{Command, parts}
use Rattle.reply_layout.specs.Frames.{Frame, frame_from}
use Rattle.reply_layout.specs.Need.{need_of}
use Rattle.reply_planner.specs.Owned.{bare_all, keys_for}
use Rattle.reply_planner.specs.Parcels.{Sent, lent}
use Rattle.reply_planner.specs.Places.{buffer_addresses}
use Rattle.shard_core.specs.Outcomes.{Outcomes, call_deeds}
use Rattle.shard_core.specs.Calls.{IsExecuted, IsCutShort}
use Rattle.shard_core.specs.Parts.{call_segs, IsInBuffer}
use Rattle.command_exec.specs.Passes.{PassView}

-- a parcel, as a frame that is laid out
abbrev pub frame_shown : Sizes → Sent → Frame
frame_shown z parcel = record {
  segments = parcel.segments;
  lent = lent z parcel;
  pinned = parcel.pinned;
  bytes = length parcel.text;
}

-- The parts of a call were run in order, and the parcel is its reply.
pub record Executes (z : Sizes) (shards : ℕ) (command : Command) (call : ℕ) (old new : PassView) (parcel : Sent)
    (segs_before segs : List Seg) : Type 0 where
  pub outcomes : Outcomes
  pub executed : IsExecuted z old.threshold shards old.list.number call command outcomes parcel.text parcel.paid
      old.list.told new.list.told old.seat new.seat
  pub number : new.list.number ≡ old.list.number
  pub looks : new.list.looks ≡ old.list.looks
  pub call_is : parcel.call ≡ call
  -- it is laid out over the addresses that the deeds found and the first free staging buffers
  pub frame : frame_shown z parcel
      ≡ frame_from old.threshold (buffer_addresses z old.free) command
      (call_deeds old.list.number call 0 (parts command) outcomes)
  pub staged : parcel.staged ≡ take (length parcel.staged) old.free
  pub some : 0 < length parcel.staged
  pub in_ring : length parcel.segments ≤ (need_of command).descriptors
  -- the parcel has one credit and one for each hold that it paid for
  pub few : parcel.paid ≤ length parcel.segments
  pub credits : new.seat.credits + 1 + parcel.paid ≡ old.seat.credits
  pub holds : bare_all new.seat.holds ≡ without_keys (keys_for parcel.staged) (bare_all old.seat.holds)
  pub returns : new.seat.returns ≡ old.seat.returns
  pub free : new.free ≡ drop (length parcel.staged) old.free
  pub stage : new.stage ≡ old.stage
  pub threshold : new.threshold ≡ old.threshold
  -- the fragments that were stored
  pub stored : segs ≡ segs_before ++ call_segs (parts command) outcomes
  pub in_buffers : Each (IsInBuffer z) (call_segs (parts command) outcomes)

-- Memory was wanting: some of the first parts were run, no reply was made, and the stage is as it was.
pub record FallsShort (z : Sizes) (shards : ℕ) (command : Command) (call : ℕ) (old new : PassView) : Type 0 where
  pub outcomes : Outcomes
  pub cut : IsCutShort z shards old.list.number call command outcomes old.list.told new.list.told old.seat new.seat
  pub number : new.list.number ≡ old.list.number
  pub looks : new.list.looks ≡ old.list.looks
  pub holds : bare_all new.seat.holds ≡ bare_all old.seat.holds
  pub credits : new.seat.credits ≡ old.seat.credits
  pub returns : old.seat.returns ≤ new.seat.returns
  pub free : new.free ≡ old.free
  pub stage : new.stage ≡ old.stage
  pub threshold : new.threshold ≡ old.threshold
