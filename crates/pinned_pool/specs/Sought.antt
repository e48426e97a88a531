-- What a seat claimed and looked at in a stretch of calls, as a record that adds up.
use Rattle.std.specs.Prelude.{◌≡◌, ℕ, ◌+◌, ◌<◌, ◌≤◌, Result, is_ok, if◌then◌else◌}
use Rattle.pin_core.specs.Buffers.{buffers}
use Rattle.pin_core.specs.declared.sizes.Sizes.{Sizes}
use Rattle.pin_core.specs.declared.class.Class.{Class}
use Rattle.pin_core.specs.declared.class.Class.TheVariants.{Small, Large}
use Rattle.pinned_pool.specs.Views.{looked_at}
use Rattle.pinned_pool.specs.Classes.{class_at, buffers_in}
use Rattle.pinned_pool.specs.declared.pool.NoBuffer.{NoBuffer}
use Rattle.pinned_pool.specs.declared.view.View.{View}

-- The seat claimed at most so many buffers of each class. So many requests found no buffer: each missed one in a class,
-- of which one fewer was claimed, and each of whose buffers stands in the looks once more.
pub record Sought (z : Sizes) (rows : Class → ℕ) (requests : ℕ) (old new : View) : Type 0 where
  pub missed : Class → ℕ
  pub missed_are : missed Small + missed Large ≡ requests
  pub claims : (class : Class)
      → buffers_in z class new.claims + missed class ≤ buffers_in z class old.claims + rows class
  pub looks : (b : ℕ) → b < buffers z → looked_at b old.looks + missed (class_at z b) ≤ looked_at b new.looks

-- how many requests found none: one, unless it is answered
abbrev pub missing : {A : Type 0} → Result A NoBuffer → ℕ
missing result = if is_ok result then 0 else 1
