-- Staging areas that are opened one after another.
use Rattle.std.specs.Prelude.{ℕ, ◌*◌, ◌<◌, ◌≤◌, List, ◌∷◌, ◌++◌, length}
use Rattle.view_sums.specs.Total.{Each}
use Rattle.pin_core.specs.declared.sizes.Sizes.{Sizes}
use Rattle.pinned_pool.specs.Ends.{LooksClaimed}
use Rattle.pinned_pool.specs.Sought.{Sought}
use Rattle.pinned_pool.specs.Views.{nobody}
use Rattle.pinned_pool.specs.declared.view.View.{View}
use Rattle.shard_core.specs.Stock.{IsIdle}
use Rattle.serve_model.specs.Demand.{stage_row}
use Rattle.serve_model.specs.Seats.{HasAll}

-- A stage found no buffer, where these seats have one each, the others claimed nothing, and there are 128 small buffers
-- for each stage: the last seat of the pool shows all that. It can't be.
pub record IsStageRefused (z : Sizes) (stages : ℕ) (opened idle : List View) (refused last : View) : Type 0 where
  pub room : 128 * stages ≤ z.small
  pub fewer : length opened < stages
  pub opened_sought : Each (Sought z stage_row 0 nobody) opened
  pub idle_claims : Each IsIdle idle
  pub refused_sought : Sought z stage_row 1 nobody refused
  pub all : HasAll (refused ∷ idle ++ opened) last
  -- what closing the pool says
  pub looked : LooksClaimed last

abbrev pub NoStageRefused : Type 0
NoStageRefused = (z : Sizes) (stages : ℕ) (opened idle : List View) (refused last : View)
    → IsStageRefused z stages opened idle refused last → ⊥
