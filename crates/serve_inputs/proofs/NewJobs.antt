-- Sessions that wait for a worker.
use Rattle.std.proofs.Common.{◌≡◌, ℕ, Bool, [], Option, Some, None, Result, sym, subst}
use Rattle.pin_core.specs.declared.sizes.Sizes.{Sizes}
use Rattle.pinned_pool.specs.declared.view.View.{View}
use Rattle.reply_planner.specs.Parcels.{Sent}
use Rattle.tx_descriptor.specs.declared.framed.Framed.{Ghosts}
use Rattle.tx_ring.specs.declared.device.DeviceEnd.{DeviceEnd}
use Rattle.command_pump.specs.Pump.{Origin, PumpState, IsPump}
use Rattle.pin_dump.specs.Dumps.{DumpView}
use Rattle.device_model.specs.Devices.{CanFrame}
use Rattle.session_pass.specs.Views.{SessionView}
use Rattle.session_serve.specs.Dumps.{CanTake, CanKeepAll}
use Rattle.session_serve.specs.declared.dump.DumpPlan.{DumpPlan}
use Rattle.serve_inputs.specs.Jobs.{IsNewJob, HasDumpWire}
use Rattle.run_resources.specs.Opened.{IsSessionSlot}
use Rattle.run_resources.proofs.SessionSlots.{fresh}

module _ {g : Ghosts Sent} {P W : Type 0} where
  -- it is asked for no dump
  pub new_job : (z : Sizes) (shards : ℕ) (session : SessionView) (device : DeviceEnd Sent g) (failed : Bool)
      (mtu : Option ℕ) (pump : PumpState) (origin : Origin) (faults : ℕ) (plan : Option (DumpPlan P))
      (taken : Option (Result DumpView View)) (wire : Option W) → IsSessionSlot z session device failed
      → IsPump origin faults [] pump → pump.given ≡ [] → pump.faults ≡ faults → plan ≡ None → taken ≡ None
      → wire ≡ None → CanFrame mtu → IsNewJob z shards session pump device failed mtu plan taken wire
  new_job z shards session device failed mtu pump origin faults plan taken wire is unread none same unasked untried
      unwired can_frame = record {
        fresh = fresh z session device failed pump origin faults is unread none same;
        ring = is.ring;
        unfailed = is.unfailed;
        can_frame = can_frame;
        can_take = subst (CanTake z shards) (sym unasked) tt;
        untried = untried;
        wired = subst (λ (q : Option (DumpPlan P) × Option W). HasDumpWire q.0 q.1) (λ i. (
          sym unasked i,
          sym unwired
              i,
        ))
            tt;
      }

  -- a new job that is asked for a dump
  pub asked_job : (z : Sizes) (shards : ℕ) (session : SessionView) (device : DeviceEnd Sent g) (failed : Bool)
      (mtu : Option ℕ) (pump : PumpState) (before plan : Option (DumpPlan P))
      (tried taken : Option (Result DumpView View))
      (wire : Option W) (asked : DumpPlan P) (own : W)
      → IsNewJob {g = g} {P = P} {W = W} z shards session pump device failed mtu before tried wire → CanKeepAll z shards
      asked.seat
      → plan ≡ Some asked → taken ≡ None
      → IsNewJob z shards session pump device failed mtu plan taken (Some own)
  asked_job z shards session device failed mtu pump before plan tried taken wire asked own is can plan_is untried =
      record {
        fresh = is.fresh;
        ring = is.ring;
        unfailed = is.unfailed;
        can_frame = is.can_frame;
        can_take = subst (CanTake z shards) (sym plan_is) can;
        untried = untried;
        wired = subst (λ (p : Option (DumpPlan P)). HasDumpWire p (Some own)) (sym plan_is) tt;
      }
