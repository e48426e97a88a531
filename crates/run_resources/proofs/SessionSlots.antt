-- Sessions that wait for their sources.
use Rattle.std.proofs.Common.{◌≡◌, ℕ, Bool, false, [], refl, ap, sym, ◌∙◌, subst}
use Rattle.pin_core.specs.declared.sizes.Sizes.{Sizes}
use Rattle.view_sums.specs.Total.{total}
use Rattle.pinned_pool.specs.Sought.{Sought}
use Rattle.pinned_pool.specs.Views.{nobody}
use Rattle.pinned_pool.specs.declared.view.View.{View}
use Rattle.reply_planner.specs.Owned.{bare_all}
use Rattle.reply_planner.specs.Parcels.{Sent}
use Rattle.tx_descriptor.specs.declared.framed.Framed.{Ghosts}
use Rattle.tx_ring.specs.Rule.{blank_driver, blank_device}
use Rattle.tx_ring.specs.Shown.{driver_ring, driver_view, device_ring, device_view}
use Rattle.tx_ring.specs.declared.device.DeviceEnd.{DeviceEnd}
use Rattle.tx_ring.specs.declared.driver.Driver.{Driver}
use Rattle.command_exec.specs.Passes.{PassView}
use Rattle.command_pump.specs.Pump.{Origin, PumpState, IsPump}
use Rattle.serve_model.specs.Demand.{stage_row}
use Rattle.session_pass.specs.Views.{SessionView, whole_view}
use Rattle.session_pass.specs.Fresh.{IsFresh}
use Rattle.run_resources.specs.Opened.{session_credits, IsNewPass, IsSessionSlot}
use Rattle.run_resources.proofs.Opening.{stage_alone}

-- the number of a session in the book, and the credits of its seat
abbrev pub number_of : SessionView → ℕ
number_of session = session.pass.list.number

abbrev pub HasCredits : SessionView → Type 0
HasCredits session = session.opened.credits ≡ session_credits

module _ {g : Ghosts Sent} where
  pub slot : (z : Sizes) (pass : PassView) (session : SessionView) (driver : Driver Sent g)
      (device : DeviceEnd Sent g)
      (failed : Bool) → IsNewPass z pass
      → session ≡ whole_view pass pass.seat (driver_ring driver) (driver_view driver) false
      → driver_view driver ≡ blank_driver → device_ring device ≡ driver_ring driver
      → device_view device ≡ blank_device → failed ≡ false → IsSessionSlot z session device failed
  slot z pass session driver device failed new is blank ring untold unfailed =
      let own = whole_view pass pass.seat (driver_ring driver) blank_driver false in
      let same : own ≡ session =
      ap (λ d. whole_view pass pass.seat (driver_ring driver) d false) (sym blank) ∙ sym is in
      subst (λ (s : SessionView). IsSessionSlot z s device failed) same (record {
        pass = new;
        session_is = refl;
        ring = ring;
        blank = untold;
        unfailed = unfailed;
      })

  pub slot_credits : (z : Sizes) (session : SessionView) (device : DeviceEnd Sent g) (failed : Bool)
      → IsSessionSlot z session device failed → HasCredits session
  slot_credits z session device failed is =
      ap (λ (s : SessionView). s.opened.credits) is.session_is ∙ is.pass.opened.keeps.credits

  -- with a source that gave nothing
  pub fresh : (z : Sizes) (session : SessionView) (device : DeviceEnd Sent g) (failed : Bool) (pump : PumpState)
      (origin : Origin) (faults : ℕ) → IsSessionSlot z session device failed → IsPump origin faults [] pump
      → pump.given ≡ [] → pump.faults ≡ faults → IsFresh z session pump
  fresh z session device failed pump origin faults is unread none same =
      let opened : session.opened ≡ session.pass.seat = ap (λ (s : SessionView). s.opened) is.session_is in
      record {
        none_posted = ap (λ (s : SessionView). s.posted) is.session_is;
        none_told = is.pass.untold;
        opened = opened;
        stage = λ weight. ap (λ (v : View). total weight (bare_all v.holds)) opened
            ∙ stage_alone z session.pass.stage session_credits session.pass.seat is.pass.opened weight;
        claimed = subst (Sought z stage_row 0 nobody) (sym opened) is.pass.sought;
        unstopped = ap (λ (s : SessionView). s.stopped) is.session_is;
        none_given = none;
        unread = subst (λ (y : Origin × ℕ). IsPump y.0 y.1 [] pump) (λ i. (sym unread.origin_is i, sym same i)) unread;
      }
