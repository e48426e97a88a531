-- Sessions that wait for a worker, and what becomes of them.
use Rattle.std.specs.Prelude.{◌≡◌, ◌≢◌, ℕ, Bool, true, false, List, [], Option, Some, None, Result, length, ⊤}
use Rattle.std.specs.Borrow.{Bor}
use Rattle.pin_core.specs.declared.sizes.Sizes.{Sizes}
use Rattle.pinned_pool.specs.declared.view.View.{View}
use Rattle.order_book.specs.Pages.{SessionList}
use Rattle.flake_base.specs.declared.session.End.TheVariants.{Left}
use Rattle.flake_base.specs.declared.session.SessionEnd.{SessionEnd}
use Rattle.command_pump.specs.Pump.{PumpState, EndFaults}
use Rattle.tx_descriptor.specs.declared.framed.Framed.{Ghosts}
use Rattle.tx_ring.specs.Shown.{device_ring}
use Rattle.tx_ring.specs.declared.device.DeviceEnd.{DeviceEnd}
use Rattle.reply_planner.specs.Parcels.{Sent}
use Rattle.device_model.specs.Devices.{CanFrame}
use Rattle.session_pass.specs.Views.{SessionView}
use Rattle.session_pass.specs.Fresh.{IsFresh}
use Rattle.session_serve.specs.Served.{IsServed}
use Rattle.session_serve.specs.Wires.{SendsOut}
use Rattle.session_serve.specs.Dumps.{CanTake}
use Rattle.session_serve.specs.declared.dump.DumpPlan.{DumpPlan}
use Rattle.dump_model.specs.Seen.{HasSeen}
use Rattle.pin_dump.specs.Dumps.{DumpView, IsEmptied}
use Rattle.serve_inputs.specs.declared.job.Dumped.{Dumped}

-- a dump that is asked for has its wire
abbrev pub HasDumpWire : {P W : Type 0} → Option (DumpPlan P) → Option W → Type 0
HasDumpWire None None = ⊤
HasDumpWire None (Some wire) = ⊥
HasDumpWire (Some plan) None = ⊥
HasDumpWire (Some plan) (Some wire) = ⊤

module _ {g : Ghosts Sent} where
  -- nothing was done yet, and the session's ring is the device's
  pub record IsNewJob {P W : Type 0} (z : Sizes) (shards : ℕ) (session : SessionView) (pump : PumpState)
      (device : DeviceEnd Sent g) (failed : Bool) (mtu : Option ℕ) (plan : Option (DumpPlan P))
      (taken : Option (Result DumpView View)) (dump_wire : Option W) : Type 0 where
    pub fresh : IsFresh z session pump
    pub ring : device_ring device ≡ session.ring
    pub unfailed : failed ≡ false
    pub can_frame : CanFrame mtu
    pub can_take : CanTake z shards plan
    pub untried : taken ≡ None
    pub wired : HasDumpWire plan dump_wire

-- the seat has no hold, and its credits, claims and looks are those of the seat that was handed over
pub record IsGivenBack (old new : View) : Type 0 where
  pub holds : new.holds ≡ []
  pub credits : new.credits ≡ old.credits
  pub claims : new.claims ≡ old.claims
  pub looks : new.looks ≡ old.looks

module _ {W : Type 0} (put_may : W → Bor (List ℕ) → (W × Bool) → Type 0) (flush_may : W → (W × Bool) → Type 0) where
  -- a dump was put on its wire, and its holds were given back
  pub record IsWritten (dump : DumpView) (old : W) (points : List ℕ) (taken : Bool) (bytes : ℕ) (failed : Bool)
      (seat : View) (new : W) : Type 0 where
    pub points_are : points ≡ dump.points
    pub is_taken : taken ≡ true
    pub bytes_are : bytes ≡ length dump.text
    pub sends : SendsOut put_may flush_may false failed dump.text old new
    pub emptied : IsEmptied dump.seat seat

  -- a dump before this call was taken, and put on its wire
  pub record HasDumped (shards before : ℕ) (mine : SessionList) (old : W) (points : List ℕ) (bytes : ℕ)
      (failed : Bool) (new : W) : Type 0 where
    pub text : List ℕ
    pub seen : HasSeen shards before mine points text
    pub bytes_are : bytes ≡ length text
    pub sends : SendsOut put_may flush_may false failed text old new

  -- or memory was wanting for it, and its wire is as it was
  pub record HasNotDumped (old : W) (points : List ℕ) (bytes : ℕ) (failed : Bool) (new : W) : Type 0 where
    pub no_points : points ≡ []
    pub no_bytes : bytes ≡ 0
    pub unfailed : failed ≡ false
    pub wire : new ≡ old

  abbrev pub IsDumpedBy : Bool → ℕ → ℕ → SessionList → W → List ℕ → ℕ → Bool → W → Type 0
  IsDumpedBy true shards before mine old points bytes failed new =
      HasDumped shards before mine old points bytes failed new
  IsDumpedBy false shards before mine old points bytes failed new = HasNotDumped old points bytes failed new

  -- What became of a dump that was asked for. A session that was asked for none has seen no more than at first.
  abbrev pub IsDumped : {P : Type 0} → ℕ → Option (DumpPlan P) → Option W → SessionList → SessionList
      → Option (Dumped P W) → Type 0
  IsDumped shards None wire first mine None = mine.looks ≡ first.looks
  IsDumped shards None wire first mine (Some dumped) = ⊥
  IsDumped shards (Some plan) None first mine dumped = ⊥
  IsDumped shards (Some plan) (Some old) first mine None = ⊥
  IsDumped shards (Some plan) (Some old) first mine (Some dumped) =
      IsDumpedBy dumped.taken shards plan.before mine old dumped.points.items dumped.bytes dumped.failed dumped.wire
      × IsGivenBack plan.seat dumped.seat

module _
    {W : Type 0}
    (mtu : Option ℕ)
    (put_may : W → Bor (List ℕ) → (W × Bool) → Type 0)
    (flush_may : W → (W × Bool) → Type 0) where
  -- what became of a session
  pub record IsDone {P : Type 0} (z : Sizes) (shards : ℕ) (session : SessionView) (pump : PumpState)
      (plan : Option (DumpPlan P)) (old : W) (dump_wire : Option W) (end : SessionEnd) (bytes : ℕ)
      (mine : SessionList) (seat : View) (left : PumpState) (new : W) (dumped : Option (Dumped P W)) : Type 0 where
    pub served : IsServed mtu put_may flush_may z shards session left.given left.ended end bytes mine seat old new
    pub origin : left.origin ≡ pump.origin
    pub reads : EndFaults end.end pump.faults left.faults
    pub to_the_end : end.end ≢ Left
    pub credits : seat.credits ≡ session.opened.credits
    pub dump : IsDumped put_may flush_may shards plan dump_wire session.pass.list mine dumped
