-- A session and its device that run beside each other: what each of them does.
use Rattle.std.specs.Prelude.{◌≡◌, ℕ, Bool, List, ◌++◌, length, Option, Result}
use Rattle.std.specs.Borrow.{Bor}
use Rattle.pin_core.specs.declared.sizes.Sizes.{Sizes}
use Rattle.pinned_pool.specs.declared.view.View.{View}
use Rattle.order_book.specs.Pages.{SessionList}
use Rattle.flake_base.specs.declared.session.End.{End}
use Rattle.flake_model.specs.Command.{Command}
use Rattle.command_pump.specs.Pump.{PumpState}
use Rattle.any_wire.specs.Sends.{Flushes}
use Rattle.tx_ring.specs.Shown.{closed_ring, closed_view}
use Rattle.tx_ring.specs.declared.closed.ClosedDriver.{ClosedDriver}
use Rattle.reply_planner.specs.Parcels.{Sent}
use Rattle.device_model.specs.Devices.{ForwardsAs}
use Rattle.session_pass.specs.Calls.{KeepsAll, PostsOne, CallRefused}
use Rattle.session_pass.specs.Views.{SessionView}
use Rattle.pin_dump.specs.Dumps.{DumpView}
use Rattle.session_serve.specs.Whole.{KeepsWhole}
use Rattle.session_serve.specs.Working.{HasStopped, IsLeft}
use Rattle.session_serve.specs.Dumps.{DumpCame, as_seeing}
use Rattle.session_serve.specs.declared.dump.DumpPlan.{DumpPlan}

-- the session gave some replies back, and did nothing else
pub record HasWaited (old new : SessionView) : Type 0 where
  pub gone : List Sent
  pub reaped : new.reaped ≡ old.reaped ++ gone
  pub keeps : KeepsAll old new

-- it waited, and then a call was executed and its reply posted
pub record CallsAtLast (z : Sizes) (shards : ℕ) (command : Command) (old new : SessionView) : Type 0 where
  pub rested : SessionView
  pub waited : HasWaited old rested
  pub call : ℕ
  pub freed : ℕ
  pub posts : PostsOne z shards command rested new call freed

-- it waited, and then memory was wanting in a call
pub record BreaksAtLast (z : Sizes) (shards : ℕ) (command : Command) (old new : SessionView) : Type 0 where
  pub rested : SessionView
  pub waited : HasWaited old rested
  pub refused : CallRefused z shards command rested new

-- From its first command to its end: its replies were given back, and its ring was closed.
pub record RanToTheEnd {P : Type 0} (z : Sizes) (shards : ℕ) (first : SessionView) (unread : PumpState)
    (asked : Option (DumpPlan P)) (how : End) (replies : ℕ) (seat : View) (mine : SessionList) (pump : PumpState)
    (closed : ClosedDriver Sent) (taken : Option (Result DumpView View)) : Type 0 where
  -- as it stood behind its last call and the dump
  pub session : SessionView
  pub stopped : HasStopped z shards (as_seeing session.pass.list first) unread.origin unread.faults how session pump
  pub left : IsLeft session seat mine
  pub replies_are : replies ≡ length session.posted
  pub ring : closed_ring closed ≡ first.ring
  pub posted : (closed_view closed).posted ≡ session.posted
  pub dump : DumpCame shards asked taken first.pass.list mine

module _
    {W : Type 0}
    (mtu : Option ℕ)
    (put_may : W → Bor (List ℕ) → (W × Bool) → Type 0)
    (flush_may : W → (W × Bool) → Type 0) where
  -- some replies more were completed and put, and their bytes were counted, where they were put whole
  pub record ForwardsMore (failed now : Bool) (before after : List Sent) (bytes counted : ℕ)
      (old new : W) : Type 0 where
    pub forwards : ForwardsAs mtu put_may flush_may failed now before after old new
    pub whole : KeepsWhole mtu put_may flush_may failed now before after bytes counted old new

  -- some replies more were completed and put, and last of all the wire was flushed, where nothing has failed
  pub record ForwardsOut (failed now : Bool) (before after : List Sent) (bytes counted : ℕ) (old new : W) : Type 0 where
    pub between : Bool
    pub middle : W
    pub forwards : ForwardsAs mtu put_may flush_may failed between before after old middle
    pub flushed : Flushes flush_may between now middle new
    -- and their bytes were counted, where they were put whole
    pub whole : KeepsWhole mtu put_may flush_may failed now before after bytes counted old new
