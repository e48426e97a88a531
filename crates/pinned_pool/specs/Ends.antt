-- What is left of a pool that was closed.
use Rattle.std.specs.Prelude.{◌≡◌, ℕ, zero, suc, ◌+◌, ◌<◌, List, ◌==◌, if◌then◌else◌, slice_index}
use Rattle.view_sums.specs.Total.{total}
use Rattle.pin_core.specs.Holding.{at}
use Rattle.pin_core.specs.HeldCount.{held_in}
use Rattle.pin_core.specs.declared.sizes.Sizes.{Sizes}
use Rattle.pinned_pool.specs.Views.{among, looked_at}
use Rattle.pinned_pool.specs.declared.view.View.{View}

-- what the last seat had, and how many buffers of each class had a hold
pub record End : Type 0 where
  pub seat : View
  pub small : ℕ
  pub large : ℕ

abbrev pub pool_end : Sizes → View → End
pool_end z v = record {
  seat = v;
  small = held_in (λ weight. total weight v.holds) 0 z.small;
  large = held_in
      (λ weight. total weight v.holds) z.small z.large;
}

-- how many of the n words from the first on are not 0
abbrev pub nonzero_in : List ℕ → ℕ → ℕ → ℕ
nonzero_in words first zero = 0
nonzero_in words first (suc n) = nonzero_in words first n + (if slice_index words (first + n) == 0 then 0 else 1)

-- each buffer that was found held was claimed
abbrev pub LooksClaimed : View → Type 0
LooksClaimed v = (b : ℕ) → 0 < looked_at b v.looks → 0 < among b v.claims

-- how often each buffer was claimed, and how often its last hold was given back
abbrev pub AllEnded : View → Type 0
AllEnded v = (b : ℕ) → among b v.claims ≡ among b v.lasts + (if total (at b) v.holds == 0 then 0 else 1)
