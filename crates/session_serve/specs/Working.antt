-- A session that is served: before its first call, between its calls, and behind its last.
use Rattle.std.specs.Prelude.{◌≡◌, ◌≢◌, ℕ, ◌+◌, ◌≤◌, Bool, false, List, [], ◌∷◌, ◌++◌, length}
use Rattle.view_sums.specs.Total.{total}
use Rattle.pin_core.specs.Holding.{Holding}
use Rattle.pin_core.specs.declared.sizes.Sizes.{Sizes}
use Rattle.pinned_pool.specs.declared.view.View.{View}
use Rattle.order_book.specs.Pages.{SessionList}
use Rattle.flake_base.specs.declared.session.End.{End}
use Rattle.flake_base.specs.declared.session.End.TheVariants.{Left}
use Rattle.flake_model.specs.Command.{Command}
use Rattle.flake_model.specs.Deed.{Deed}
use Rattle.flake_model.specs.Resp.{judged_bytes}
use Rattle.flake_model.specs.Session.{IsSession}
use Rattle.command_pump.specs.Pump.{Origin, PumpState, IsPump, EndFaults, ended_at}
use Rattle.tx_descriptor.specs.declared.framed.Framed.{Ghosts}
use Rattle.tx_ring.specs.Shown.{device_ring, completed}
use Rattle.tx_ring.specs.declared.device.DeviceEnd.{DeviceEnd}
use Rattle.reply_planner.specs.Owned.{bare_all, fresh_all}
use Rattle.reply_planner.specs.Parcels.{Sent, texts_in}
use Rattle.shard_core.specs.Outcomes.{Outcomes}
use Rattle.serve_model.specs.Going as model
use Rattle.serve_model.specs.Runs.{Run, session_of}
use Rattle.session_pass.specs.Kept.{holds_paid}
use Rattle.session_serve.specs.Forms.{AreNumberedByPlace}
use Rattle.session_pass.specs.Views.{SessionView}

module _ {g : Ghosts Sent} where
  -- all replies that the session posted are gathered, which it knows
  pub record IsGathered (session : SessionView) (device : DeviceEnd Sent g) : Type 0 where
    pub ring : device_ring device ≡ session.ring
    pub all : completed device ≡ session.posted
    pub told : session.told ≡ length session.posted

  -- all but the last
  pub record HasOneMore (session : SessionView) (device : DeviceEnd Sent g) : Type 0 where
    pub ring : device_ring device ≡ session.ring
    pub reply : Sent
    pub posted : session.posted ≡ completed device ++ reply ∷ []

-- so it can make a call more
pub record IsReady (session : SessionView) : Type 0 where
  pub unstopped : session.stopped ≡ false
  pub few : length session.posted ≤ judged_bytes + 1

-- what calls never change
pub record IsSame (first session : SessionView) : Type 0 where
  pub number : session.pass.list.number ≡ first.pass.list.number
  pub looks : session.pass.list.looks ≡ first.pass.list.looks
  pub stage : session.pass.stage ≡ first.pass.stage
  pub threshold : session.pass.threshold ≡ first.pass.threshold
  pub opened : session.opened ≡ first.opened

-- Of a source with this origin, and from a count of faults on, these commands were given and called, with these
-- outcomes.
pub record IsWorking (z : Sizes) (shards : ℕ) (first : SessionView) (origin : Origin) (before : ℕ)
    (given : List Command) (calls : List Outcomes) (session : SessionView) (pump : PumpState) : Type 0 where
  pub pump_is : IsPump origin before given pump
  pub count : length session.posted ≡ length given
  pub numbered : AreNumberedByPlace session.posted
  pub going : model.IsGoing z first.pass.threshold shards first.pass.list.number given calls
      (texts_in session.posted) (holds_paid session.posted) session.pass.list.told first.pass.seat session.pass.seat
  pub same : IsSame first session

-- one command more
pub record CallsMore (z : Sizes) (shards : ℕ) (first : SessionView) (origin : Origin) (before : ℕ)
    (given : List Command) (calls : List Outcomes) (session : SessionView) (pump : PumpState) : Type 0 where
  pub command : Command
  pub outcomes : Outcomes
  pub working : IsWorking z shards first origin before (given ++ command ∷ []) (calls ++ outcomes ∷ []) session pump

-- a run that ended so, after so many bytes and replies
abbrev pub run_of : List Command → List Outcomes → Outcomes → List (ℕ × List Deed) → End → ℕ → ℕ → Bool → Run
run_of commands calls behind looks how taken replies failed = record {
  commands = commands;
  calls = calls;
  behind = behind;
  looks = looks;
  end = ended_at how taken replies failed;
}

-- It makes no more calls, and ends so; whether its wire failed isn't said here.
pub record HasStopped (z : Sizes) (shards : ℕ) (first : SessionView) (origin : Origin) (before : ℕ) (how : End)
    (session : SessionView) (pump : PumpState) : Type 0 where
  pub origin_is : pump.origin ≡ origin
  pub faults_are : EndFaults how before pump.faults
  pub to_the_end : how ≢ Left
  pub commands : List Command
  pub calls : List Outcomes
  pub behind : Outcomes
  pub ended : (failed : Bool) → model.CallsNoMore z first.pass.threshold shards first.pass.list.number
      (run_of commands calls behind session.pass.list.looks how pump.taken (length session.posted) failed)
      (texts_in session.posted) (holds_paid session.posted) session.pass.list.told first.pass.seat session.pass.seat
  pub is_session : (failed : Bool) → IsSession (session_of pump.given pump.ended
      (run_of commands calls behind session.pass.list.looks how pump.taken (length session.posted) failed))
  pub numbered : AreNumberedByPlace session.posted
  pub same : IsSame first session

-- What is left when all its replies were given back: its seat has no hold but those that it had besides its stage.
pub record IsLeft (session : SessionView) (seat : View) (mine : SessionList) : Type 0 where
  pub list : mine ≡ session.pass.list
  pub claims : seat.claims ≡ session.pass.seat.claims
  pub looks : seat.looks ≡ session.pass.seat.looks
  pub credits : seat.credits ≡ session.opened.credits
  pub returns : holds_paid session.posted ≤ seat.returns
  pub holds : (weight : Holding → ℕ)
      → total weight (bare_all seat.holds) + total weight (fresh_all session.pass.stage)
      ≡ total weight (bare_all session.opened.holds)
