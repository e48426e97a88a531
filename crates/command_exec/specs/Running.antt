-- A call, part by part: what its first parts did, and how the plan has its reply in the end.
use Rattle.std.specs.Prelude.{◌≡◌, ℕ, ◌≤◌, List, [], ◌++◌, None, length}
use Rattle.view_sums.specs.Total.{Each}
use Rattle.pin_core.specs.declared.sizes.Sizes.{Sizes}
use Rattle.flake_base.specs.declared.segment.Seg.{Seg}
use Rattle.flake_model.specs.Store.{Operation}
use Rattle.flake_model.specs.Command.{Command, parts}
use Rattle.reply_layout.specs.declared.need.Need.{Need}
use Rattle.reply_layout.specs.Pieces.{pieces_of}
use Rattle.reply_planner.specs.Laid.{pieces_in}
use Rattle.reply_planner.specs.Planned.{Planned, paid_in}
use Rattle.shard_core.specs.Outcomes.{Outcomes, call_deeds}
use Rattle.shard_core.specs.CallDemand.{call_pins}
use Rattle.shard_core.specs.Calls.{AreRunning, IsCutShort}
use Rattle.shard_core.specs.Parts.{call_segs, IsInBuffer, KeepsSeat}
use Rattle.command_exec.specs.Alike.{Alike}
use Rattle.command_exec.specs.Passes.{PassView}

-- what parts leave of a pass
pub record KeepsPass (old new : PassView) : Type 0 where
  pub number : new.list.number ≡ old.list.number
  pub looks : new.list.looks ≡ old.list.looks
  pub seat : KeepsSeat old.seat new.seat
  pub free : new.free ≡ old.free
  pub stage : new.stage ≡ old.stage
  pub threshold : new.threshold ≡ old.threshold

-- the first parts of a call were run
pub record HasRun (z : Sizes) (shards call : ℕ) (operations : List Operation) (outcomes : Outcomes)
    (old new : PassView) (segs_before segs : List Seg) : Type 0 where
  pub running : AreRunning z shards old.list.number call operations outcomes old.list.told new.list.told
      old.seat new.seat
  pub keeps : KeepsPass old new
  pub stored : segs ≡ segs_before ++ call_segs operations outcomes
  pub in_buffers : Each (IsInBuffer z) (call_segs operations outcomes)

-- in one of its parts memory was wanting
pub record LacksMemory (z : Sizes) (shards call : ℕ) (command : Command) (old new : PassView) : Type 0 where
  pub outcomes : Outcomes
  pub cut : IsCutShort z shards old.list.number call command outcomes old.list.told new.list.told old.seat new.seat
  pub keeps : KeepsPass old new

-- a plan for so much, to which nothing was given
pub record IsStarted (need : Need) (p : Planned) : Type 0 where
  pub taken : p.taken ≡ []
  pub begun : p.begun ≡ None
  pub descriptors : p.base.descriptors ≡ need.descriptors
  pub stage : length p.base.stage ≡ need.stage
  pub threshold : p.base.threshold ≤ 512

-- all parts of a call were run, and the plan has its reply
pub record HasReply (z : Sizes) (shards call : ℕ) (command : Command) (old new : PassView) (segs_before segs : List Seg)
    (p : Planned) : Type 0 where
  pub outcomes : Outcomes
  pub ran : HasRun z shards call (parts command) outcomes old new segs_before segs
  pub whole : length outcomes ≡ length (parts command)
  pub pieces : Alike p.base.threshold (pieces_in p.taken)
      (pieces_of command (call_deeds old.list.number call 0 (parts command) outcomes))
  pub paid : call_pins p.base.threshold (parts command) outcomes ≤ paid_in p
  pub begun : p.begun ≡ None
