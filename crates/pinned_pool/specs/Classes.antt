-- The classes of buffers, and how many of a list are of each.
use Rattle.std.specs.Prelude.{ℕ, List, Bool, true, false, nat_lt, if◌then◌else◌}
use Rattle.view_sums.specs.Total.{total}
use Rattle.pin_core.specs.declared.sizes.Sizes.{Sizes}
use Rattle.pin_core.specs.declared.class.Class.{Class}
use Rattle.pin_core.specs.declared.class.Class.TheVariants.{Small, Large}

-- the class of a pool's buffer: the small ones have the first numbers
abbrev pub class_at : Sizes → ℕ → Class
class_at z b = if nat_lt b z.small then Small else Large

abbrev pub same_class : Class → Class → Bool
same_class Small Small = true
same_class Large Large = true
same_class Small Large = false
same_class Large Small = false

-- so many of the class, and none of the other
abbrev pub just : Class → ℕ → Class → ℕ
just class n other = if same_class class other then n else 0

-- how many of the buffers are of the class
abbrev pub buffers_in : Sizes → Class → List ℕ → ℕ
buffers_in z class bs = total (λ (b : ℕ). just (class_at z b) 1 class) bs
