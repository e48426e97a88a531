-- What lines are judged by, of a session and of its device.
use Rattle.std.specs.Prelude.{◌<◌, Bool}
use Rattle.view_sums.specs.Total.{Each}
use Rattle.pin_core.specs.declared.sizes.Sizes.{Sizes}
use Rattle.order_book.specs.Closed.{own_deeds}
use Rattle.reply_planner.specs.Parcels.{Sent}
use Rattle.reply_planner.specs.Places.{buffer_addresses}
use Rattle.tx_descriptor.specs.declared.framed.Framed.{Ghosts}
use Rattle.tx_ring.specs.Shown.{ring_size, completed, device_told}
use Rattle.tx_ring.specs.declared.device.DeviceEnd.{DeviceEnd}
use Rattle.session_pass.specs.Views.{SessionView}
use Rattle.session_pass.specs.Kept.{IsSessionSound}
use Rattle.drive_script.specs.Views.{SessionShown, DeviceShown}

abbrev pub session_shown : Sizes → SessionView → SessionShown
session_shown z s = record {
  number = s.pass.list.number;
  sizes = z;
  ring = ring_size s.ring;
  threshold = s.pass.threshold;
  stage = buffer_addresses z s.pass.stage;
  posted = s.posted;
  reaped = s.reaped;
  told = s.told;
  deeds = own_deeds s.pass.list;
}

module _ {g : Ghosts Sent} where
  abbrev pub device_shown : Bool → DeviceEnd Sent g → DeviceShown
  device_shown failed end = record { completed = completed end; failed = failed; told = device_told end }

-- what is so of every session over a pool of these sizes
pub record LiesInPool (z : Sizes) (s : SessionView) : Type 0 where
  pub is : IsSessionSound s
  pub small : Each (λ buffer. buffer < z.small) s.pass.stage
