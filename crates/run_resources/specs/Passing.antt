-- Passes that are opened one after another.
use Rattle.std.specs.Prelude.{◌≡◌, ℕ, ◌+◌, ◌*◌, ◌<◌, List, [], All, length}
use Rattle.view_sums.specs.Total.{Each}
use Rattle.pin_core.specs.declared.sizes.Sizes.{Sizes}
use Rattle.pinned_pool.specs.Sought.{Sought}
use Rattle.pinned_pool.specs.Views.{nobody}
use Rattle.pinned_pool.specs.declared.view.View.{View}
use Rattle.order_book.specs.Pages.{SessionList}
use Rattle.command_exec.specs.Passes.{PassView}
use Rattle.serve_model.specs.Demand.{stage_row}
use Rattle.run_resources.specs.Joined.{HasJoined}
use Rattle.run_resources.specs.Opened.{session_credits, IsNewPass}

-- the session has no deed yet
abbrev pub IsNewList : SessionList → Type 0
IsNewList list = list.told ≡ []

-- a session's seat that found no buffer for its stage
pub record SeatRefused (z : Sizes) (refused : View) : Type 0 where
  pub sought : Sought z stage_row 1 nobody refused
  pub credits : refused.credits ≡ session_credits

-- the same behind so many passes, of all that there were to be; the seats came off this one
pub record AreRefused (z : Sizes) (all : ℕ) (first main refused : View) (passes : List PassView) : Type 0 where
  pub refused_is : SeatRefused z refused
  pub fewer : length passes < all
  pub passes_are : All (IsNewPass z) passes
  pub credits : main.credits + session_credits * (length passes + 1) ≡ first.credits

-- the seat took in those of so many passes, each of which claimed a stage
pub record HasStages (z : Sizes) (count : ℕ) (old new : View) : Type 0 where
  pub seats : List View
  pub as_many : length seats ≡ count
  pub sought : Each (Sought z stage_row 0 nobody) seats
  pub joined : HasJoined seats old new
  pub credits : new.credits ≡ old.credits + session_credits * count
