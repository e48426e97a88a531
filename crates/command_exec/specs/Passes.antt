-- What contracts see of a session's way through the server.
use Rattle.std.specs.Prelude.{◌≡◌, ℕ, ◌<◌, ◌≤◌, List, length}
use Rattle.view_sums.specs.Total.{Each}
use Rattle.pin_core.specs.declared.sizes.Sizes.{Sizes}
use Rattle.pinned_pool.specs.declared.view.View.{View}
use Rattle.order_book.specs.Pages.{SessionList}
use Rattle.reply_planner.specs.Owned.{AreOwn}
use Rattle.reply_planner.specs.Stages.{stage_size, IsRising}
use Rattle.reply_planner.specs.declared.error.OpenError.{OpenError}

pub record PassView : Type 0 where
  pub list : SessionList
  pub seat : View
  -- the buffers of its stage, and those that no reply uses, both in ascending order
  pub stage : List ℕ
  pub free : List ℕ
  -- a run of a stored fragment that has at least so many bytes stays where it lies
  pub threshold : ℕ

abbrev pub pass_of : SessionList → View → List ℕ → List ℕ → ℕ → PassView
pass_of list seat stage free threshold =
    record { list = list; seat = seat; stage = stage; free = free; threshold = threshold }

-- what is true of every pass
pub record IsPass (z : Sizes) (p : PassView) : Type 0 where
  pub own : AreOwn p.seat.holds p.free
  pub count : length p.stage ≡ stage_size
  pub rising : IsRising p.stage
  pub small : Each (λ b. b < z.small) p.stage
  pub threshold : (0 < p.threshold) × (p.threshold ≤ 512)

-- how many requests for a buffer found none, by the error
abbrev pub none_found : OpenError → ℕ
none_found (OpenError.NoBuffer none) = 1
none_found OpenError.Memory = 0
