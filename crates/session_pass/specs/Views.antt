-- What contracts see of a session.
use Rattle.std.specs.Prelude.{ℕ, List, Bool}
use Rattle.atomic_table.specs.Seated.{TableId}
use Rattle.pinned_pool.specs.declared.view.View.{View}
use Rattle.tx_ring.specs.declared.view.DriverView.{DriverView}
use Rattle.reply_planner.specs.Parcels.{Sent}
use Rattle.command_exec.specs.Passes.{PassView}

pub record SessionView : Type 0 where
  pub pass : PassView
  -- the pass's seat, as it was when the session was opened
  pub opened : View
  pub ring : TableId
  -- the replies that were posted, and of these the ones that were reaped
  pub posted : List Sent
  pub reaped : List Sent
  -- for each look that found the oldest reply not sent, how many replies were reaped until then
  pub misses : List ℕ
  -- so many replies were completed when both ends of the ring were last at hand
  pub told : ℕ
  -- a call has met want of memory
  pub stopped : Bool

-- a session as its parts show it
abbrev pub whole_view : PassView → View → TableId → DriverView Sent → Bool → SessionView
whole_view pass opened ring driver stopped = record {
  pass = pass;
  opened = opened;
  ring = ring;
  posted = driver.posted;
  reaped = driver.reaped;
  misses = driver.misses;
  told = driver.told;
  stopped = stopped;
}
