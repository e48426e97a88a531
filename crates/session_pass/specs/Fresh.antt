-- A session before its first call, and its source before its first read.
use Rattle.std.specs.Prelude.{◌≡◌, ℕ, false, []}
use Rattle.view_sums.specs.Total.{total}
use Rattle.pin_core.specs.Holding.{Holding}
use Rattle.pin_core.specs.declared.sizes.Sizes.{Sizes}
use Rattle.pinned_pool.specs.Sought.{Sought}
use Rattle.pinned_pool.specs.Views.{nobody}
use Rattle.command_pump.specs.Pump.{PumpState, IsPump}
use Rattle.reply_planner.specs.Owned.{bare_all, fresh_all}
use Rattle.serve_model.specs.Demand.{stage_row}
use Rattle.session_pass.specs.Views.{SessionView}

-- The session has made no call, its seat claimed and holds its stage alone, and its source gave nothing.
pub record IsFresh (z : Sizes) (session : SessionView) (pump : PumpState) : Type 0 where
  pub none_posted : session.posted ≡ []
  pub none_told : session.pass.list.told ≡ []
  pub opened : session.opened ≡ session.pass.seat
  pub claimed : Sought z stage_row 0 nobody session.opened
  pub stage : (weight : Holding → ℕ)
      → total weight (bare_all session.opened.holds) ≡ total weight (fresh_all session.pass.stage)
  pub unstopped : session.stopped ≡ false
  pub none_given : pump.given ≡ []
  pub unread : IsPump pump.origin pump.faults [] pump
