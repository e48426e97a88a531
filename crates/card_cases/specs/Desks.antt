-- A session's seat and its stage, when no reply is on its way and when one is.
use Rattle.std.specs.Prelude.{◌≡◌, ℕ, ◌+◌, ◌≤◌, List, length}
use Rattle.pinned_pool.specs.declared.view.View.{View}
use Rattle.reply_planner.specs.Owned.{AreOwn}
use Rattle.reply_planner.specs.Parcels.{Sent}
use Rattle.reply_planner.specs.Stages.{stage_size}

-- enough for a reply of 64 values
abbrev pub most_credits : ℕ
most_credits = 1200

-- all staging buffers are free
pub record IsDesk (stage : List ℕ) (seat : View) : Type 0 where
  pub whole : length stage ≡ stage_size
  pub own : AreOwn seat.holds stage
  pub rich : most_credits ≤ seat.credits

-- a reply has what is missing
pub record HasLent (reply : Sent) (stage : List ℕ) (seat : View) : Type 0 where
  pub whole : length stage + length reply.staged ≡ stage_size
  pub own : AreOwn seat.holds stage
  pub rich : most_credits ≤ seat.credits + 1 + reply.paid
