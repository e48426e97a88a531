-- What a run has before it reads anything.
use Rattle.std.specs.Prelude.{◌≡◌, ℕ, ◌+◌, ◌*◌, ◌%◌, ◌≤◌, [], Bool, false, Option, Some, None}
use Rattle.pin_core.specs.declared.sizes.Sizes as pool
use Rattle.pinned_pool.specs.Sought.{Sought}
use Rattle.pinned_pool.specs.Views.{nobody, opener}
use Rattle.order_book.specs.declared.rule.BookSizes as book
use Rattle.tx_descriptor.specs.declared.framed.Framed.{Ghosts}
use Rattle.reply_planner.specs.Parcels.{Sent}
use Rattle.reply_planner.specs.Stages.{IsStageOpened}
use Rattle.device_model.specs.Devices.{CanFrame}
use Rattle.command_exec.specs.Passes.{PassView}
use Rattle.serve_model.specs.Demand.{stage_row}
use Rattle.session_pass.specs.Views.{SessionView, whole_view}
use Rattle.tx_ring.specs.Rule.{blank_driver, blank_device}
use Rattle.tx_ring.specs.Shown.{device_ring, device_view}
use Rattle.tx_ring.specs.declared.device.DeviceEnd.{DeviceEnd}
use Rattle.run_resources.specs.declared.sizes.RunSizes.{RunSizes}

-- the sizes that can be opened for so many sources
pub record HasRunSizes (count : ℕ) (sizes : RunSizes) : Type 0 where
  pub count_is : (1 ≤ count) × (count ≤ 16)
  pub shards : (1 ≤ sizes.shards) × (sizes.shards ≤ 16)
  pub small : (128 * count ≤ sizes.small) × (sizes.small ≤ 65_536)
  pub large : (1 ≤ sizes.large) × (sizes.large ≤ 16_384)
  pub ring : (sizes.ring % 8 ≡ 0) × (1160 ≤ sizes.ring) × (sizes.ring ≤ 4096)
  pub threshold : (1 ≤ sizes.threshold) × (sizes.threshold ≤ 512)
  pub can_frame : CanFrame sizes.mtu

-- the credits of a session, and those of a pool without a dump: the sessions', one for each shard, and one that the
-- opening keeps
abbrev pub session_credits : ℕ
session_credits = 8192

abbrev pub all_credits : ℕ → ℕ → ℕ
all_credits count shards = session_credits * count + shards + 1

-- what keeps the values of a dump: a credit for each fragment in each shard, and four more
abbrev pub credits_of_dump : Option ℕ → ℕ → ℕ
credits_of_dump None credits = 0
credits_of_dump (Some before) credits = credits

abbrev pub dump_credits : RunSizes → ℕ
dump_credits sizes = credits_of_dump sizes.dump (sizes.shards * (sizes.small + sizes.large) + 4)

-- how many wires a dump needs
abbrev pub dump_wires : Option ℕ → ℕ
dump_wires None = 0
dump_wires (Some before) = 1

abbrev pub pool_sizes : ℕ → RunSizes → pool.Sizes
pool_sizes count sizes = record {
  small = sizes.small;
  large = sizes.large;
  credits = all_credits count sizes.shards + dump_credits sizes;
}

-- a pass without a deed, whose seat claimed a stage and nothing else
pub record IsNewPass (z : pool.Sizes) (pass : PassView) : Type 0 where
  pub untold : pass.list.told ≡ []
  pub all_free : pass.free ≡ pass.stage
  pub opened : IsStageOpened z pass.stage (opener session_credits) pass.seat
  pub sought : Sought z stage_row 0 nobody pass.seat

-- the pool and the book of these sizes
abbrev pub IsPool : ℕ → RunSizes → pool.Sizes → Type 0
IsPool count sizes z = z ≡ pool_sizes count sizes

abbrev pub IsBook : ℕ → RunSizes → book.BookSizes → Type 0
IsBook count sizes b = (b.shards ≡ sizes.shards) × (b.sessions ≡ count)

module _ {g : Ghosts Sent} where
  -- A session has a new pass and a new ring, of which the device has the other end.
  pub record IsSessionSlot (z : pool.Sizes) (session : SessionView) (device : DeviceEnd Sent g) (failed : Bool) : Type 0
    where
      pub pass : IsNewPass z session.pass
      pub session_is : session ≡ whole_view session.pass session.pass.seat session.ring blank_driver false
      pub ring : device_ring device ≡ session.ring
      pub blank : device_view device ≡ blank_device
      pub unfailed : failed ≡ false
