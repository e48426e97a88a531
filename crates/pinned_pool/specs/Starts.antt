-- Claims that begin at any buffer of a class.
use Rattle.std.specs.Prelude.{◌≡◌, ℕ, ◌+◌, ◌-◌, ◌⊎◌, [], ◌∷◌, nat_lt, if◌then◌else◌}
use Rattle.pin_core.specs.Holding.{Key}
use Rattle.pin_core.specs.declared.sizes.Sizes.{Sizes}
use Rattle.pin_core.specs.declared.class.Class.{Class}
use Rattle.pin_core.specs.declared.class.Class.TheVariants.{Small, Large}
use Rattle.pinned_pool.specs.Claims.{class_start, count_of, Passed, WinsIn}
use Rattle.pinned_pool.specs.Claimed.{Claims, IsIn, NoneFree}
use Rattle.pinned_pool.specs.declared.pool.NoBuffer.{NoBuffer}
use Rattle.pinned_pool.specs.declared.start.ClaimStart.{ClaimStart}
use Rattle.pinned_pool.specs.declared.view.View.{View}

abbrev pub start_in : Class → ClaimStart → ℕ
start_in Small s = s.small
start_in Large s = s.large

-- how many of the class's buffers are tried behind all others: none where the start is behind them
abbrev pub tried_last : Sizes → Class → ClaimStart → ℕ
tried_last z class s = if nat_lt (start_in class s) (count_of z class) then start_in class s else 0

-- all but the first n buffers of the class were found held
abbrev pub PassedBehind : Sizes → Class → ℕ → View → View → Type 0
PassedBehind z class n old new = Passed (class_start z class + n) (count_of z class - n) old new

-- the buffer was won behind the first n ones, or, where those behind were all held, among the first n
abbrev pub WinsAround : Sizes → Class → ℕ → Key → View → View → Type 0
WinsAround z class n k old new =
    WinsIn (class_start z class + n) (count_of z class - n) k old new
    ⊎ ((middle : View) × PassedBehind z class n old middle × WinsIn (class_start z class) n k middle new)

-- one buffer of the class was claimed
pub record ClaimsOne (z : Sizes) (class : Class) (k : Key) (old new : View) : Type 0 where
  pub class_is : IsIn z class k
  pub claims : Claims (k ∷ []) old new

-- each buffer of the class was found held once more, and nothing was claimed
pub record ClaimsNone (z : Sizes) (class : Class) (none : NoBuffer) (old new : View) : Type 0 where
  pub of_class : none.class ≡ class
  pub free : NoneFree z none old new
  pub claims : Claims [] old new
