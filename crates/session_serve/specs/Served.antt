-- What serving a session gives.
use Rattle.std.specs.Prelude.{◌≡◌, ◌≢◌, ℕ, Bool, false, List, Option, Result}
use Rattle.std.specs.Borrow.{Bor}
use Rattle.flake_base.specs.declared.session.End.TheVariants.{Left}
use Rattle.flake_base.specs.declared.session.SessionEnd.{SessionEnd}
use Rattle.command_pump.specs.Pump.{PumpState, EndFaults}
use Rattle.pin_core.specs.declared.sizes.Sizes.{Sizes}
use Rattle.pinned_pool.specs.declared.view.View.{View}
use Rattle.order_book.specs.Pages.{SessionList}
use Rattle.serve_model.specs.Handed.{SessionHasRun}
use Rattle.any_wire.specs.Texts.{joined}
use Rattle.session_serve.specs.Forms.{all_as_sent}
use Rattle.session_serve.specs.Whole.{SentWhole}
use Rattle.session_serve.specs.Wires.{SendsOut}
use Rattle.session_pass.specs.Views.{SessionView}
use Rattle.pin_dump.specs.Dumps.{DumpView}
use Rattle.session_serve.specs.Dumps.{DumpCame}
use Rattle.session_serve.specs.declared.dump.DumpPlan.{DumpPlan}

module _
    {W : Type 0}
    (mtu : Option ℕ)
    (put_may : W → Bor (List ℕ) → (W × Bool) → Type 0)
    (flush_may : W → (W × Bool) → Type 0) where
  -- The session ran on what its source gave, and its replies were put on its wire as they are sent, so many bytes of
  -- their texts in whole replies.
  pub record IsServed (z : Sizes) (shards : ℕ) (session : SessionView) (given : List ℕ) (ended : Bool)
      (end : SessionEnd) (bytes : ℕ) (list : SessionList) (last : View) (old new : W) : Type 0 where
    pub texts : List (List ℕ)
    pub ran : SessionHasRun z session.pass.threshold shards session.pass.list.number given ended end list last texts
    pub sends : SendsOut put_may flush_may false end.failed (joined (all_as_sent mtu texts)) old new
    pub whole : SentWhole put_may flush_may end.failed (all_as_sent mtu texts) texts bytes old new

  -- and this is true of what it leaves
  pub record HasServed {P : Type 0} (z : Sizes) (shards : ℕ) (session : SessionView) (pump : PumpState)
      (asked : Option (DumpPlan P))
      (old : W) (end : SessionEnd) (bytes : ℕ) (mine : SessionList) (seat : View) (left : PumpState)
      (taken : Option (Result DumpView View)) (new : W) : Type 0 where
    pub served : IsServed z shards session left.given left.ended end bytes mine seat old new
    pub origin : left.origin ≡ pump.origin
    pub reads : EndFaults end.end pump.faults left.faults
    pub to_the_end : end.end ≢ Left
    pub credits : seat.credits ≡ session.opened.credits
    pub dump : DumpCame shards asked taken session.pass.list mine
