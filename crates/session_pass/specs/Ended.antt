-- The holds of a session's seat, from before its stage was opened to the end.
use Rattle.std.specs.Prelude.{◌≡◌, ℕ, ◌+◌, List, []}
use Rattle.view_sums.specs.Total.{total}
use Rattle.pin_core.specs.Holding.{Holding}
use Rattle.pin_core.specs.declared.sizes.Sizes.{Sizes}
use Rattle.pinned_pool.specs.declared.view.View.{View}
use Rattle.reply_planner.specs.Owned.{bare_all, fresh_all}
use Rattle.reply_planner.specs.Stages.{IsStageOpened}

-- a stage was opened on the seat, and at the end the seat's holds are those of then without the stage's
pub record HadStage (z : Sizes) (stage : List ℕ) (before opened after : View) : Type 0 where
  pub is_opened : IsStageOpened z stage before opened
  pub holds : (weight : Holding → ℕ) → total weight (bare_all after.holds) + total weight (fresh_all stage)
      ≡ total weight (bare_all opened.holds)

-- so they are those from before, but for fronts
abbrev pub EndsAsItBegan : Type 0
EndsAsItBegan =
    (z : Sizes) (stage : List ℕ) (before opened after : View) → HadStage z stage before opened after
    → (weight : Holding → ℕ) → total weight (bare_all after.holds) ≡ total weight (bare_all before.holds)

-- and there are none where there were none
abbrev pub EndsWithNone : Type 0
EndsWithNone =
    (z : Sizes) (stage : List ℕ) (before opened after : View) → HadStage z stage before opened after
    → before.holds ≡ [] → after.holds ≡ []
