-- How a claim goes over the buffers of a class.
use Rattle.std.specs.Prelude.{◌≡◌, ℕ, suc, ◌+◌, ◌<◌, List, [], ◌∷◌, ◌++◌, length, false, ⊤}
use Rattle.view_sums.specs.Total.{total}
use Rattle.pin_core.specs.Holding.{Key, at}
use Rattle.pin_core.specs.declared.sizes.Sizes.{Sizes}
use Rattle.pin_core.specs.declared.class.Class.{Class}
use Rattle.pin_core.specs.declared.class.Class.TheVariants.{Small, Large}
use Rattle.pinned_pool.specs.Views.{view}
use Rattle.pinned_pool.specs.Moves.{won}
use Rattle.pinned_pool.specs.declared.view.View.{View}

-- the buffers of a class: the first one, and how many
abbrev pub class_start : Sizes → Class → ℕ
class_start z Small = 0
class_start z Large = z.small

abbrev pub count_of : Sizes → Class → ℕ
count_of z Small = z.small
count_of z Large = z.large

-- buffers one after another from b on, each with a number other than 0
abbrev pub LooksFrom : ℕ → List (ℕ × ℕ) → Type 0
LooksFrom b [] = ⊤
LooksFrom b (l ∷ ls) = (l.0 ≡ b) × (0 < l.1) × LooksFrom (suc b) ls

-- the seat with more looks
abbrev pub looking : List (ℕ × ℕ) → View → View
looking ls v = view v.holds v.credits v.claims (v.looks ++ ls) v.returns v.lasts

-- n buffers from b on were found held
pub record Passed (b n : ℕ) (old new : View) : Type 0 where
  pub looks : List (ℕ × ℕ)
  pub from : LooksFrom b looks
  pub count : length looks ≡ n
  pub seat : new ≡ looking looks old

-- some of the buffers of a stretch were found held, and then this one was won
pub record WinsIn (first count : ℕ) (k : Key) (old new : View) : Type 0 where
  pub looks : List (ℕ × ℕ)
  pub from : LooksFrom first looks
  pub within : length looks < count
  pub key : k ≡ record { buffer = first + length looks; pinned = false }
  pub seat : new ≡ won k.buffer (looking looks old)
  -- no other hold of the seat names the buffer
  pub alone : total (at k.buffer) old.holds ≡ 0

-- some buffers of the class were found held, and then this one was won
abbrev pub Wins : Sizes → Class → Key → View → View → Type 0
Wins z class k old new = WinsIn (class_start z class) (count_of z class) k old new
