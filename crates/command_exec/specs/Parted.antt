-- One part of a call, run with a plan as its taker.
use Rattle.std.specs.Prelude.{◌≡◌, ◌+◌, ◌≤◌, ℕ, List, [], ◌∷◌, ◌++◌, false, None, Option, length, if◌then◌else◌}
use Rattle.view_sums.specs.Total.{Each}
use Rattle.pin_core.specs.declared.class.Class.{Class}
use Rattle.pin_core.specs.declared.sizes.Sizes.{Sizes}
use Rattle.pinned_pool.specs.Sought.{Sought}
use Rattle.flake_base.specs.declared.journal.Entry.{Entry}
use Rattle.flake_base.specs.declared.segment.Seg.{Seg}
use Rattle.flake_model.specs.Store.{Operation}
use Rattle.flake_model.specs.Reply.{item_of, is_yes}
use Rattle.shard_core.specs.Demand.{part_row}
use Rattle.shard_core.specs.Done.{is_ranged}
use Rattle.shard_core.specs.declared.answer.PartAnswer.{PartAnswer}
use Rattle.reply_layout.specs.Pieces.{item_pieces}
use Rattle.reply_planner.specs.Laid.{pieces_in}
use Rattle.reply_planner.specs.Planned.{Planned, planned, room_of, paid_in}
use Rattle.shard_core.specs.Outcomes.{PartOutcome, answer_told}
use Rattle.shard_core.specs.CallDemand.{part_pins}
use Rattle.shard_core.specs.Calls.{IsPartRun}
use Rattle.shard_core.specs.Parts.{PartShows, IsInBuffer, segs_told}
use Rattle.shard_core.specs.Steps.{deed_told}
use Rattle.command_exec.specs.Alike.{Alike}
use Rattle.command_exec.specs.Passes.{PassView}
use Rattle.command_exec.specs.Running.{KeepsPass}

-- what became of it
pub record RunsPart (z : Sizes) (shards : ℕ) (entry : Entry) (operation : Operation) (said : PartAnswer)
    (old new : PassView) (segs_before segs : List Seg) (before after : Planned) : Type 0 where
  pub told : PartShows z shards entry operation said
      (record { list = old.list; seat = old.seat; stored = segs_before; taken = before.taken })
      (record { list = new.list; seat = new.seat; stored = segs; taken = after.taken })
  pub keeps : KeepsPass old new
  pub plan : after ≡ planned before.base after.taken None
  pub room : is_ranged operation ≡ false
      → room_of before + length before.taken ≤ room_of after + length after.taken

-- or memory was wanting
pub record MissesPart (z : Sizes) (operation : Operation) (old new : PassView) : Type 0 where
  pub told : new.list.told ≡ old.list.told
  pub sought : Sought z (λ (class : Class). part_row class operation) 0 old.seat new.seat
  pub keeps : KeepsPass old new

-- what it did, whatever its answer was
pub record HasOutcome (z : Sizes) (shards : ℕ) (entry : Entry) (operation : Operation) (outcome : Option PartOutcome)
    (old new : PassView) (segs_before segs : List Seg) : Type 0 where
  pub run : IsPartRun z shards entry operation outcome old.list.told new.list.told old.seat new.seat
  pub keeps : KeepsPass old new
  pub segs_are : segs ≡ segs_before ++ segs_told operation outcome
  pub in_buffers : Each (IsInBuffer z) (segs_told operation outcome)

-- a value, or null, was put behind what the plan had
pub record AddsValue (z : Sizes) (shards : ℕ) (entry : Entry) (operation : Operation)
    (old new : PassView) (segs_before segs : List Seg) (before after : Planned) : Type 0 where
  pub outcome : Option PartOutcome
  pub ran : HasOutcome z shards entry operation outcome old new segs_before segs
  pub pieces : Alike before.base.threshold (pieces_in after.taken)
      (pieces_in before.taken
      ++ item_pieces (item_of (answer_told outcome) ∷ []) (deed_told entry operation outcome ∷ []))
  pub paid : paid_in before + part_pins before.base.threshold operation outcome ≤ paid_in after
  pub begun : after.begun ≡ None
  pub room : room_of before ≤ room_of after + 1

-- 1 was answered where the key was there, and else 0; the answer pins nothing
pub record CountsKey (z : Sizes) (shards : ℕ) (entry : Entry) (operation : Operation) (n : ℕ)
    (old new : PassView) (segs_before segs : List Seg) (before after : Planned) : Type 0 where
  pub outcome : Option PartOutcome
  pub ran : HasOutcome z shards entry operation outcome old new segs_before segs
  pub count : n ≡ (if is_yes (answer_told outcome) then 1 else 0)
  pub free : (threshold : ℕ) → part_pins threshold operation outcome ≡ 0
  pub plan : after ≡ before
