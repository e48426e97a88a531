-- How many parts that found no buffer may need one of a class, and misses that are no more.
use Rattle.std.specs.Prelude.{ℕ, ◌+◌, ◌≤◌, min, List, Option, Some, None}
use Rattle.std.specs.List.{zip}
use Rattle.view_sums.specs.Total.{total}
use Rattle.pin_core.specs.declared.class.Class.{Class}
use Rattle.pin_core.specs.declared.class.Class.TheVariants.{Small, Large}
use Rattle.pin_core.specs.declared.sizes.Sizes.{Sizes}
use Rattle.pinned_pool.specs.Sought.{Sought}
use Rattle.pinned_pool.specs.declared.view.View.{View}
use Rattle.flake_model.specs.Store.{Operation, Answer}
use Rattle.shard_core.specs.Demand.{part_row}
use Rattle.shard_core.specs.Outcomes.{Outcomes, answers_told}

-- 1 for a part without an answer that may claim a buffer of the class
abbrev pub may_need : Class → Operation → Option Answer → ℕ
may_need class operation None = min 1 (part_row class operation)
may_need class operation (Some answer) = 0

-- 1 for a part without an answer that may claim a buffer, of the one class or the other
abbrev pub may_need_some : Operation → Option Answer → ℕ
may_need_some operation None = min 1 (part_row Small operation + part_row Large operation)
may_need_some operation (Some answer) = 0

-- how many of a call's first parts found no buffer, and may need one of the class
abbrev pub parts_needing : Class → List Operation → Outcomes → ℕ
parts_needing class operations outcomes = total (λ p. may_need class p.0 p.1) (zip operations (answers_told outcomes))

-- What was sought, and of each class no more was missed than may have been needed.
pub record SoughtFor (z : Sizes) (rows needing : Class → ℕ) (requests : ℕ) (old new : View) : Type 0 where
  pub sought : Sought z rows requests old new
  pub few : (class : Class) → sought.missed class ≤ needing class
