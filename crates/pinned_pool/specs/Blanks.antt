-- What is known of a pool before it has a name.
use Rattle.std.specs.Prelude.{◌≡◌, ℕ, ◌+◌, ◌<◌, ◌^◌, [], ⊤}
use Rattle.atomic_table.specs.Seated.{TableId}
use Rattle.atomic_table.specs.declared.shared.Seat.{Seat}
use Rattle.pin_core.specs.declared.sizes.Sizes.{Sizes}
use Rattle.pinned_pool.specs.Views.{opener}
use Rattle.pinned_pool.specs.Named.{IsPoolOf}
use Rattle.pinned_pool.specs.declared.view.View.{View}

-- what contracts see of it
pub record BlankPool : Type 0 where
  pub table : TableId
  pub sizes : Sizes

pub record IsBlankPool (table : TableId) (sizes : Sizes) (small large : ℕ) (seat : Seat ⊤ View) : Type 0 where
  pub pool : IsPoolOf table sizes table sizes
  pub counts : (small ≡ sizes.small) × (large ≡ sizes.large) × (small + large < 2 ^ 32)
  pub rich : 0 < sizes.credits
  pub seated : (seat.table_id ≡ table) × (seat.me ≡ (opener sizes.credits, []))
