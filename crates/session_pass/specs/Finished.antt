-- How a session ends.
use Rattle.std.specs.Prelude.{◌≡◌, ℕ, ◌+◌, ◌≤◌}
use Rattle.view_sums.specs.Total.{total}
use Rattle.pin_core.specs.Holding.{Holding}
use Rattle.pinned_pool.specs.declared.view.View.{View}
use Rattle.order_book.specs.Pages.{SessionList}
use Rattle.reply_planner.specs.Owned.{bare_all, fresh_all}
use Rattle.reply_planner.specs.Parcels.{Sent}
use Rattle.tx_ring.specs.Shown.{closed_ring, closed_view}
use Rattle.tx_ring.specs.declared.closed.ClosedDriver.{ClosedDriver}
use Rattle.session_pass.specs.Views.{SessionView}
use Rattle.session_pass.specs.Kept.{holds_paid}

-- All replies were reaped, and the ring and the pass were closed.
pub record IsSessionDone (s : SessionView) (seat : View) (mine : SessionList) (closed : ClosedDriver Sent) : Type 0
  where
    pub list : mine ≡ s.pass.list
    pub ring : closed_ring closed ≡ s.ring
    pub posted : (closed_view closed).posted ≡ s.posted
    pub reaped : (closed_view closed).reaped ≡ s.posted
    pub misses : (closed_view closed).misses ≡ s.misses
    pub told : (closed_view closed).told ≡ s.told
    pub claims : seat.claims ≡ s.pass.seat.claims
    pub looks : seat.looks ≡ s.pass.seat.looks
    pub credits : seat.credits ≡ s.opened.credits
    pub returns : s.opened.returns + holds_paid s.posted ≤ seat.returns
    -- it has the holds that it had when the session was opened, without those of the stage
    pub holds : (weight : Holding → ℕ) → total weight (bare_all seat.holds) + total weight (fresh_all s.pass.stage)
        ≡ total weight (bare_all s.opened.holds)
