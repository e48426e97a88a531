-- A call that was run, and whose reply was told.
use Rattle.std.specs.Prelude.{◌≡◌, ℕ, List, []}
use Rattle.pin_core.specs.declared.sizes.Sizes.{Sizes}
use Rattle.flake_base.specs.declared.segment.Seg.{Seg}
use Rattle.flake_model.specs.Command.{Command}
use Rattle.reply_planner.specs.Parcels.{Sent}
use Rattle.command_exec.specs.Passes.{PassView}
use Rattle.command_exec.specs.Executed.{Executes}

pub record RunsCommand (z : Sizes) (shards : ℕ) (command : Command) (call : ℕ) (old new : PassView) (parcel : Sent)
    (sent stored : List Seg) : Type 0 where
  pub executes : Executes z shards command call old new parcel [] stored
  pub sent_is : sent ≡ parcel.segments

-- whatever it stored
abbrev pub RunsUntold : Sizes → ℕ → Command → ℕ → PassView → PassView → Sent → Type 0
RunsUntold z shards command call old new parcel =
    (stored : List Seg) × RunsCommand z shards command call old new parcel parcel.segments stored
