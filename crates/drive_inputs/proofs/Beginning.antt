-- A session with its source and its wire, before the first line.
use Rattle.std.proofs.Common.{◌≡◌, ℕ, Bool, [], Some, None, refl, ap}
use Rattle.pin_core.specs.declared.sizes.Sizes.{Sizes}
use Rattle.reply_planner.specs.Parcels.{Sent}
use Rattle.tx_descriptor.specs.declared.framed.Framed.{Ghosts}
use Rattle.tx_ring.specs.declared.device.DeviceEnd.{DeviceEnd}
use Rattle.tx_ring.specs.declared.view.DeviceView.{DeviceView}
use Rattle.command_pump.specs.Pump.{Origin, PumpState, IsPump}
use Rattle.session_pass.specs.Views.{SessionView}
use Rattle.session_pass.specs.Fresh.{IsFresh}
use Rattle.drive_script.specs.Driving.{driving_of, IsNew}
use Rattle.run_resources.specs.Opened.{IsSessionSlot}
use Rattle.run_resources.proofs.SessionSlots.{fresh}

module _ {g : Ghosts Sent} where
  pub new_driving : {W : Type 0} (z : Sizes) (session : SessionView) (device : DeviceEnd Sent g) (failed : Bool)
      (pump : PumpState) (origin : Origin) (faults : ℕ) (wire : W) → IsSessionSlot z session device failed
      → IsPump origin faults [] pump → pump.given ≡ [] → pump.faults ≡ faults
      → IsNew z (driving_of session failed device None None pump (Some wire)) × IsFresh z session pump
  new_driving z session device failed pump origin faults wire is unread none count =
      let untouched = fresh z session device failed pump origin faults is unread none count in (
        record {
          ring = is.ring;
          small = is.pass.opened.small;
          none_posted = untouched.none_posted;
          none_reaped = ap (λ (s : SessionView). s.reaped) is.session_is;
          none_told = is.pass.untold;
          told = ap (λ (s : SessionView). s.told) is.session_is;
          none_completed = ap (λ (v : DeviceView Sent). v.completed) is.blank;
          unfailed = is.unfailed;
          device_told = ap (λ (v : DeviceView Sent). v.told) is.blank;
          none_kept = refl;
          none_ended = refl;
          unread = untouched.unread;
          wire = wire;
          wire_is = refl;
        },
        untouched,
      )
