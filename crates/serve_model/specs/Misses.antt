-- The misses of a session's calls that have their reply, among all of its misses.
use Rattle.std.specs.Prelude.{◌≡◌, ℕ, ◌+◌, ◌≤◌, List}
use Rattle.view_sums.specs.Total.{total}
use Rattle.pin_core.specs.declared.class.Class.{Class}
use Rattle.pin_core.specs.declared.class.Class.TheVariants.{Small, Large}
use Rattle.pin_core.specs.declared.sizes.Sizes.{Sizes}
use Rattle.pinned_pool.specs.Sought.{Sought}
use Rattle.pinned_pool.specs.declared.view.View.{View}
use Rattle.flake_model.specs.Command.{Command}
use Rattle.shard_core.specs.Needed.{may_need}
use Rattle.shard_core.specs.Outcomes.{Outcomes, missed_in}
use Rattle.serve_model.specs.Runs.{Run, parts_told, missed_by}

-- how many parts of these calls found no buffer, and may need one of the class
abbrev pub calls_needing : Class → List Command → List Outcomes → ℕ
calls_needing class commands calls = total (λ part. may_need class part.0 part.1) (parts_told commands calls)

-- Of all misses so many, and of each class no more than may have been needed.
pub record WholeMisses (count : ℕ) (all needing : Class → ℕ) : Type 0 where
  pub missed : Class → ℕ
  pub missed_are : missed Small + missed Large ≡ count
  pub within : (class : Class) → missed class ≤ all class
  pub needed : (class : Class) → missed class ≤ needing class

-- What a run sought: the misses of all its parts, and among them those of the calls that have their reply.
pub record SoughtByRun (z : Sizes) (rows : Class → ℕ) (run : Run) (old new : View) : Type 0 where
  pub sought : Sought z rows (missed_by run.calls + missed_in run.behind) old new
  pub whole : WholeMisses (missed_by run.calls) sought.missed
      (λ (class : Class). calls_needing class run.commands run.calls)
