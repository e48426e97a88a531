-- What a name ties to its pool.
use Rattle.std.specs.Prelude.{◌≡◌, ℕ, ◌<◌, ◌≤◌, [], length, Bool, true, false}
use Rattle.atomic_table.specs.Seated.{TableId}
use Rattle.atomic_table.specs.Table.{Me}
use Rattle.view_sums.specs.Total.{Each}
use Rattle.pin_core.specs.Buffers.{buffers, buffer_words}
use Rattle.pin_core.specs.Holding.{Holding}
use Rattle.pin_core.specs.declared.sizes.Sizes.{Sizes}
use Rattle.pinned_pool.specs.Views.{IsLoose, OneFront}
use Rattle.pinned_pool.specs.Rule.{table_words}
use Rattle.pinned_pool.specs.declared.unpinned.Unpinned.{Unpinned}
use Rattle.pinned_pool.specs.declared.unpinned.Unpinned.TheVariants.{Last, NotLast}
use Rattle.pinned_pool.specs.declared.view.View.{View}

-- the name of no pool
abbrev pub unnamed_pool : TableId
unnamed_pool = record { block = 0; offset = 0; words = 0; slots = 0; atom = 0; views_name = 0; slot_names = [] }

abbrev pub no_pool_sizes : Sizes
no_pool_sizes = record { small = 0; large = 0; credits = 0 }

-- the hold is of a buffer of the pool, and its front fits
abbrev pub IsNearby : Sizes → Holding → Type 0
IsNearby z h = (h.buffer < buffers z) × (length h.front ≤ buffer_words z h.buffer)

-- each buffer that the seat claimed is one of the pool's
abbrev pub ClaimsAreNearby : Sizes → View → Type 0
ClaimsAreNearby z v = Each (λ (b : ℕ). b < buffers z) v.claims

-- what is true of every seat
pub record IsSeat (z : Sizes) (v : View) : Type 0 where
  -- it has a credit at least
  pub live : 0 < v.credits
  pub near : Each (IsNearby z) v.holds
  pub loose : IsLoose v
  pub fronts : OneFront v
  pub claimed : ClaimsAreNearby z v

-- a seat of the pool
pub record IsSeatOf {S : Type 0} (table : TableId) (sizes : Sizes) (id : TableId) (me : Me S View) : Type 0 where
  pub named : id ≡ table
  pub no_slot : me.1 ≡ []
  pub kept : IsSeat sizes me.0

-- the pool with this name
pub record IsPoolOf (table : TableId) (sizes : Sizes) (id : TableId) (key : Sizes) : Type 0 where
  pub table_is : id ≡ table
  pub sizes_are : key ≡ sizes
  pub words : id.words ≡ table_words key
  pub some : 0 < buffers key
  pub no_slots : id.slots ≡ 0

abbrev pub is_last : Unpinned → Bool
is_last Last = true
is_last NotLast = false
