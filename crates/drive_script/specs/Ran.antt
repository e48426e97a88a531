-- A driven session that has ended: it ran, and what was said of it is right.
use Rattle.std.specs.Prelude.{◌≡◌, ℕ, Bool, false, List, Some}
use Rattle.std.specs.Borrow.{Bor}
use Rattle.any_wire.specs.Sends.{Flushes}
use Rattle.flake_base.specs.declared.session.SessionEnd.{SessionEnd}
use Rattle.pin_core.specs.declared.sizes.Sizes.{Sizes}
use Rattle.command_pump.specs.Pump.{PumpState, EndFaults}
use Rattle.order_book.specs.Closed.{own_deeds}
use Rattle.order_book.specs.Pages.{SessionList}
use Rattle.pinned_pool.specs.declared.view.View.{View}
use Rattle.serve_model.specs.Handed.{SessionHasRun}
use Rattle.session_serve.specs.Wires.{SendsOut}
use Rattle.transcript_model.specs.Lines.{LineEvent}
use Rattle.any_wire.specs.Texts.{WireGrew, joined}
use Rattle.transcript_model.specs.Sessions.{IsRightSession, texts_of}
use Rattle.reply_planner.specs.Parcels.{texts_in}
use Rattle.drive_script.specs.Driving.{Driving, fixed_at}
use Rattle.drive_script.specs.Connections.{sends_by}
use Rattle.drive_script.specs.Left.{terms_at, GathersAll}

-- No reply was there to gather, and the wire was flushed, where nothing had failed.
pub record FlushesOnly {W : Type 0} (flush_may : W → (W × Bool) → Type 0) (old new : Driving W) : Type 0 where
  pub completed : new.device.completed ≡ old.device.completed
  pub before : W
  pub before_is : old.wire ≡ Some before
  pub behind : W
  pub behind_is : new.wire ≡ Some behind
  pub flushed : Flushes flush_may old.device.failed new.device.failed before behind

module _
    {W : Type 0}
    (put_may : W → Bor (List ℕ) → (W × Bool) → Type 0)
    (flush_may : W → (W × Bool) → Type 0)
    (z : Sizes)
    (shards : ℕ) where
  -- All replies were gathered, and then the wire was flushed, where nothing had failed.
  pub record GathersOut (first : Driving W) (events : List LineEvent) (now : Driving W) : Type 0 where
    pub gathers : GathersAll (sends_by put_may flush_may) z shards first events now
    pub out : SendsOut put_may flush_may false now.device.failed (joined (texts_in now.session.posted)) gathers.is.start
        gathers.is.wire

  -- A session was driven and left: it ran, what was said of it is right by its own list, and its wire was sent the
  -- texts of its replies, and flushed last of all.
  pub record HasDriven (first : Driving W) (events : List LineEvent) (end : SessionEnd) (mine : SessionList)
      (seat : View)
      (left : PumpState) (new : W) : Type 0 where
    pub texts : List (List ℕ)
    pub ran : SessionHasRun z first.session.pass.threshold shards first.session.pass.list.number left.given
        left.ended end mine seat texts
    pub origin : left.origin ≡ first.pump.origin
    pub whole : ℕ
    pub told : IsRightSession (terms_at (fixed_at z first.session) ran.run.commands end whole (own_deeds mine)) events
    pub start : W
    pub start_is : first.wire ≡ Some start
    pub grew : WireGrew (sends_by put_may flush_may) end.failed whole
        (texts_of (terms_at (fixed_at z first.session) ran.run.commands end whole (own_deeds mine))) start new
    pub sends : SendsOut put_may flush_may false end.failed (joined texts) start new
    pub reads : EndFaults end.end first.pump.faults left.faults
    pub credits : seat.credits ≡ first.session.opened.credits
    pub looks : mine.looks ≡ first.session.pass.list.looks
